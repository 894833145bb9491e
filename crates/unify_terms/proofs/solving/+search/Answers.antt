use Rattle.std.proofs.Common.{◌≡◌, ◌++◌, ◌<◌, ◌+◌, ◌*◌, ◌∷◌, arith, subst, sym, ap, ◌∙◌, map, sum, drop, Some, None, true, refl, length}
use Rattle.std.specs.Prelude.{slice_get}
use Rattle.std.specs.List.{list_all}
use Rattle.std.proofs.lemmas.Option.{slice_get_read, slice_get_past}
use Rattle.unify_terms.specs.declared.pending.Pending.{Each}
use Rattle.unify_terms.specs.code.Chosen.{chosen_pairs}
use Rattle.unify_terms.proofs.ChosenFacts.{chosen_pairs-Then}
use Rattle.unify_terms.specs.Goals.{before, each_of, with_pairs, and_then, asked, goal_sorted}
use Rattle.unify_terms.proofs.GoalsFacts.{asked-All, asked-Any, asked-Same, goal_sorted-All, goal_sorted-Any, goal_sorted-Same}
use Rattle.unify_terms.specs.code.Pending.{asked_pending, pending_sorted}
use Rattle.unify_terms.proofs.PendingFacts.{goal_size, pending_size, asked_pending-One, asked_pending-Each, pending_sorted-One, pending_sorted-Each, goal_size-All, goal_size-Any, goal_size-Same, pending_size-One, pending_size-Each}
use Rattle.unify_terms.specs.Unifiers.{AreSorted, Unified}
use Rattle.unify_terms.specs.code.Searched.{Searched}
use Rattle.unify_terms.proofs.SearchedFacts.{NoneOf}
use Rattle.unify_terms.proofs.Searches.{split_tests, both_tests, same_ways, with_nothing, before_assoc, searched_same, searched_hopeless, searched_one, none_more, searched_nowhere, sorted_both, drop_some, drop_none, size_cons, size_at, sorted_at, ok_map}
use Rattle.unify_terms.proofs.solving.+search.Goals as goal

pub search-meet-requires : goal.search-meet-requires
search-meet-requires t c =
    let size = ap pending_size c.in-One.is ∙ pending_size-One c.in-One.goal c.in-One.rest in
    let both = split_tests (goal_sorted c.args.signature.now c.args.scope.now.sorts c.in-One.goal.now) (pending_sorted c.args.signature.now c.args.scope.now.sorts c.in-One.rest.now) (sym (ap (pending_sorted c.args.signature.now c.args.scope.now.sorts) c.in-One.is ∙ pending_sorted-One c.args.signature.now c.args.scope.now.sorts c.in-One.goal c.in-One.rest) ∙ c.requires.pending) in
    let falls : 2 * (goal_size c.in-One.goal.now + pending_size c.in-One.rest.now) < 2 * pending_size c.args.pending.now + 1 = omega arith in
    (omega arith, (c.requires.few, (c.requires.sorted, (both.0, both.1))))

pub search-meet-requires-in-Some : goal.search-meet-requires-in-Some
search-meet-requires-in-Some t c =
    let at = slice_get_read c.in-Each.goals.now (length c.in-Each.goals.now) c.in-Each.at c.in-Some.goal.now refl c.in-Some.ensures.lookup.3.0 c.in-Some.ensures.lookup.1 in
    let cut = drop_some c.in-Each.goals.now c.in-Each.at c.in-Some.goal.now at in
    let size = ap pending_size c.in-Each.is ∙ pending_size-Each c.in-Each.goals c.in-Each.at c.in-Each.rest in
    let next = pending_size-Each c.in-Each.goals (c.in-Each.at + 1) c.in-Each.rest in
    let total = ap (λ gs. sum (map goal_size gs)) cut ∙ size_cons c.in-Some.goal.now (drop (c.in-Each.at + 1) c.in-Each.goals.now) in
    let both = split_tests (list_all (goal_sorted c.args.signature.now c.args.scope.now.sorts) (drop c.in-Each.at c.in-Each.goals.now)) (pending_sorted c.args.signature.now c.args.scope.now.sorts c.in-Each.rest.now) (sym (ap (pending_sorted c.args.signature.now c.args.scope.now.sorts) c.in-Each.is ∙ pending_sorted-Each c.args.signature.now c.args.scope.now.sorts c.in-Each.goals c.in-Each.at c.in-Each.rest) ∙ c.requires.pending) in
    let goals_sorted : list_all (goal_sorted c.args.signature.now c.args.scope.now.sorts) (c.in-Some.goal.now ∷ drop (c.in-Each.at + 1) c.in-Each.goals.now) ≡ true = subst (λ gs. list_all (goal_sorted c.args.signature.now c.args.scope.now.sorts) gs ≡ true) cut both.0 in
    let parts = split_tests (goal_sorted c.args.signature.now c.args.scope.now.sorts c.in-Some.goal.now) (list_all (goal_sorted c.args.signature.now c.args.scope.now.sorts) (drop (c.in-Each.at + 1) c.in-Each.goals.now)) goals_sorted in
    let falls : 2 * (goal_size c.in-Some.goal.now + pending_size (Each c.in-Each.goals (c.in-Each.at + 1) c.in-Each.rest)) < 2 * pending_size c.args.pending.now + 1 = omega arith in
    (omega arith, (c.requires.few, (c.requires.sorted, (parts.0, pending_sorted-Each c.args.signature.now c.args.scope.now.sorts c.in-Each.goals (c.in-Each.at + 1) c.in-Each.rest ∙ both_tests _ _ parts.1 both.1))))

pub search-search-requires : goal.search-search-requires
search-search-requires t c =
    let at = c.in-None.ensures in
    let size = ap pending_size c.in-Each.is ∙ pending_size-Each c.in-Each.goals c.in-Each.at c.in-Each.rest in
    let both = split_tests (list_all (goal_sorted c.args.signature.now c.args.scope.now.sorts) (drop c.in-Each.at c.in-Each.goals.now)) (pending_sorted c.args.signature.now c.args.scope.now.sorts c.in-Each.rest.now) (sym (ap (pending_sorted c.args.signature.now c.args.scope.now.sorts) c.in-Each.is ∙ pending_sorted-Each c.args.signature.now c.args.scope.now.sorts c.in-Each.goals c.in-Each.at c.in-Each.rest) ∙ c.requires.pending) in
    let falls : 2 * pending_size c.in-Each.rest.now + 1 < 2 * pending_size c.args.pending.now + 1 = omega arith in
    (omega arith, (c.requires.few, (c.requires.sorted, both.1)))

pub search-returns-in-One : goal.search-returns-in-One
search-returns-in-One t c = rw (c.in-One.is, asked_pending-One) c.meet.ensures

pub search-returns-in-Some : goal.search-returns-in-Some
search-returns-in-Some t c =
    let at = slice_get_read c.in-Each.goals.now (length c.in-Each.goals.now) c.in-Each.at c.in-Some.goal.now refl c.in-Some.ensures.lookup.3.0 c.in-Some.ensures.lookup.1 in
    let cut = drop_some c.in-Each.goals.now c.in-Each.at c.in-Some.goal.now at in
    let rest = asked_pending c.in-Each.rest.now in
    let is = ap asked_pending c.in-Each.is ∙ asked_pending-Each c.in-Each.goals c.in-Each.at c.in-Each.rest ∙ ap (λ gs. before (each_of (map asked gs)) rest) cut in
    ok_map c.meet-in-Some.result (λ r s. same_ways c.args.signature.now c.args.scope.now (chosen_pairs c.args.chosen.now) (asked_pending c.args.pending.now) (before (asked c.in-Some.goal.now) (asked_pending (Each c.in-Each.goals (c.in-Each.at + 1) c.in-Each.rest)))
    (λ choices. ap (λ w. w choices) is ∙ before_assoc (asked c.in-Some.goal.now) (each_of (map asked (drop (c.in-Each.at + 1) c.in-Each.goals.now))) rest choices
    ∙ ap (λ w. before (asked c.in-Some.goal.now) w choices) (sym (asked_pending-Each c.in-Each.goals (c.in-Each.at + 1) c.in-Each.rest))) r s) c.meet-in-Some.ensures

pub search-returns-in-None : goal.search-returns-in-None
search-returns-in-None t c =
    let cut = drop_none c.in-Each.goals.now c.in-Each.at (slice_get_past c.in-Each.goals.now c.in-Each.at c.in-None.ensures.lookup.3) in
    let rest = asked_pending c.in-Each.rest.now in
    let is = ap asked_pending c.in-Each.is ∙ asked_pending-Each c.in-Each.goals c.in-Each.at c.in-Each.rest ∙ ap (λ gs. before (each_of (map asked gs)) rest) cut in
    ok_map c.search.result (λ r s. same_ways c.args.signature.now c.args.scope.now (chosen_pairs c.args.chosen.now) (asked_pending c.args.pending.now) rest (λ choices. ap (λ w. w choices) is ∙ with_nothing (rest choices)) r s) c.search.ensures

pub meet-search-requires : goal.meet-search-requires
meet-search-requires t c =
    let size = ap goal_size c.in-All.is ∙ goal_size-All c.in-All.goals in
    let next : pending_size (Each c.as_slice.result 0 c.args.rest) ≡ 1 + sum (map goal_size c.as_slice.result.now) + pending_size c.args.rest.now = pending_size-Each c.as_slice.result 0 c.args.rest in
    let same = ap (λ gs. sum (map goal_size gs)) c.as_slice.ensures in
    let sorted = sym (ap (goal_sorted c.args.signature.now c.args.scope.now.sorts) c.in-All.is ∙ goal_sorted-All c.args.signature.now c.args.scope.now.sorts c.in-All.goals) ∙ c.requires.goal in
    let sorted' : list_all (goal_sorted c.args.signature.now c.args.scope.now.sorts) c.as_slice.result.now ≡ true = subst (λ gs. list_all (goal_sorted c.args.signature.now c.args.scope.now.sorts) gs ≡ true) (sym c.as_slice.ensures) sorted in
    (omega arith, (c.requires.few, (c.requires.sorted, pending_sorted-Each c.args.signature.now c.args.scope.now.sorts c.as_slice.result 0 c.args.rest ∙ both_tests _ _ sorted' c.requires.rest)))

pub meet-first_of-requires : goal.meet-first_of-requires
meet-first_of-requires t c =
    let size = ap goal_size c.in-Any.is ∙ goal_size-Any c.in-Any.goals in
    let same = ap (λ gs. sum (map goal_size gs)) c.as_slice-in-Any.ensures in
    let sorted = sym (ap (goal_sorted c.args.signature.now c.args.scope.now.sorts) c.in-Any.is ∙ goal_sorted-Any c.args.signature.now c.args.scope.now.sorts c.in-Any.goals) ∙ c.requires.goal in
    (omega arith, (c.requires.few, (c.requires.sorted, (subst (λ gs. list_all (goal_sorted c.args.signature.now c.args.scope.now.sorts) gs ≡ true) (sym c.as_slice-in-Any.ensures) sorted, c.requires.rest))))

pub meet-returns-in-All : goal.meet-returns-in-All
meet-returns-in-All t c =
    let rest = asked_pending c.args.rest.now in
    let is = asked_pending-Each c.as_slice.result 0 c.args.rest ∙ ap (λ gs. before (each_of (map asked gs)) rest) c.as_slice.ensures ∙ ap (λ w. before w rest) (sym (ap asked c.in-All.is ∙ asked-All c.in-All.goals)) in
    ok_map c.search.result (λ r s. same_ways c.args.signature.now c.args.scope.now (chosen_pairs c.args.chosen.now) (before (asked c.args.goal.now) rest) (asked_pending (Each c.as_slice.result 0 c.args.rest)) (λ choices. ap (λ w. w choices) (sym is)) r s) c.search.ensures

pub meet-returns-in-Any : goal.meet-returns-in-Any
meet-returns-in-Any t c = rw (c.in-Any.is, asked-Any) (rw c.as_slice-in-Any.ensures at c.first_of.ensures)

pub first_of-meet-requires : goal.first_of-meet-requires
first_of-meet-requires t c =
    let at : slice_get c.args.goals.now c.loop-at.at ≡ Some c.index-goals-at.result = slice_get_read c.args.goals.now (length c.args.goals.now) c.loop-at.at c.index-goals-at.result refl (omega arith) c.index-goals-at.is in
    let small = size_at c.args.goals.now c.loop-at.at c.index-goals-at.result at in
    (omega arith, (c.requires.few, (c.requires.sorted, (sorted_at c.args.signature.now c.args.scope.now.sorts c.args.goals.now c.loop-at.at c.index-goals-at.result at c.requires.goals, c.requires.rest))))

pub first_of-returns-in-Some : goal.first_of-returns-in-Some
first_of-returns-in-Some t c =
    let at : slice_get c.args.goals.now c.loop-at.at ≡ Some c.index-goals-at.result = slice_get_read c.args.goals.now (length c.args.goals.now) c.loop-at.at c.index-goals-at.result refl (omega arith) c.index-goals-at.is in
    searched_one c.args.signature.now c.args.scope.now (chosen_pairs c.args.chosen.now) c.args.goals.now (asked_pending c.args.rest.now) c.loop-at.at c.index-goals-at.result c.in-Some.found c.in_ok-with_choice-in-Some.field-0 at
    (rw c.in-Some.is at c.in_ok-found.ensures) c.in_ok-with_choice-in-Some.ensures.0 c.in_ok-with_choice-in-Some.ensures.1

pub first_of-loop-at-preserved : goal.first_of-loop-at-preserved
first_of-loop-at-preserved t c =
    let at : slice_get c.args.goals.now c.loop-at.at ≡ Some c.index-goals-at.result = slice_get_read c.args.goals.now (length c.args.goals.now) c.loop-at.at c.index-goals-at.result refl (omega arith) c.index-goals-at.is in
    none_more c.args.signature.now c.args.scope.now (chosen_pairs c.args.chosen.now) c.args.goals.now (asked_pending c.args.rest.now) c.loop-at.at c.index-goals-at.result c.loop-at.invariant at (rw c.in-None.is at c.in_ok-found.ensures)

pub first_of-returns : goal.first_of-returns
first_of-returns t c =
    let all : NoneOf c.args.signature.now c.args.scope.now (chosen_pairs c.args.chosen.now) c.args.goals.now (asked_pending c.args.rest.now) (length c.args.goals.now) = λ k g h. c.loop-at.invariant k g (omega arith) in
    searched_nowhere c.args.signature.now c.args.scope.now (chosen_pairs c.args.chosen.now) c.args.goals.now (asked_pending c.args.rest.now) all

pub meet-fails_early-requires : goal.meet-fails_early-requires
meet-fails_early-requires t c =
    let sorted = sym (ap (goal_sorted c.args.signature.now c.args.scope.now.sorts) c.in-Same.is ∙ goal_sorted-Same c.args.signature.now c.args.scope.now.sorts c.in-Same.pairs) ∙ c.requires.goal in
    let more_is = chosen_pairs-Then _ c.as_slice-in-Same.result ∙ ap (λ ps. chosen_pairs c.args.chosen.now ++ ps) c.as_slice-in-Same.ensures in
    record { sorted = subst (AreSorted c.args.signature.now c.args.scope.now.sorts) (sym more_is) (sorted_both c.args.signature.now c.args.scope.now.sorts (chosen_pairs c.args.chosen.now) c.in-Same.pairs c.requires.sorted sorted) }

pub meet-returns-then-hopeless : goal.meet-returns-then-hopeless
meet-returns-then-hopeless t c =
    let rest = asked_pending c.args.rest.now in
    let more_is = chosen_pairs-Then _ c.as_slice-in-Same.result ∙ ap (λ ps. chosen_pairs c.args.chosen.now ++ ps) c.as_slice-in-Same.ensures in
    let none = c.in_ok-hopeless-in-Same.ensures c.if-hopeless.true in
    let none' = subst (λ given. Unified c.args.signature.now c.args.scope.now.sorts c.args.scope.now.rigid given None) more_is none in
    same_ways c.args.signature.now c.args.scope.now (chosen_pairs c.args.chosen.now) (before (asked c.args.goal.now) rest) (λ choices. with_pairs c.in-Same.pairs (rest choices))
    (λ choices. ap (λ o. and_then o rest) (ap (λ g. asked g choices) c.in-Same.is ∙ asked-Same c.in-Same.pairs choices)) None
    (searched_same c.args.signature.now c.args.scope.now (chosen_pairs c.args.chosen.now) c.in-Same.pairs rest None (searched_hopeless c.args.signature.now c.args.scope.now ((chosen_pairs c.args.chosen.now) ++ c.in-Same.pairs) rest none'))

pub meet-search-requires-in-Same : goal.meet-search-requires-in-Same
meet-search-requires-in-Same t c =
    let size = ap goal_size c.in-Same.is ∙ goal_size-Same c.in-Same.pairs in
    let sorted = sym (ap (goal_sorted c.args.signature.now c.args.scope.now.sorts) c.in-Same.is ∙ goal_sorted-Same c.args.signature.now c.args.scope.now.sorts c.in-Same.pairs) ∙ c.requires.goal in
    let more_is = chosen_pairs-Then _ c.as_slice-in-Same.result ∙ ap (λ ps. chosen_pairs c.args.chosen.now ++ ps) c.as_slice-in-Same.ensures in
    (omega arith, (c.requires.few, (subst (AreSorted c.args.signature.now c.args.scope.now.sorts) (sym more_is) (sorted_both c.args.signature.now c.args.scope.now.sorts (chosen_pairs c.args.chosen.now) c.in-Same.pairs c.requires.sorted sorted), c.requires.rest)))

pub meet-returns-else-hopeless : goal.meet-returns-else-hopeless
meet-returns-else-hopeless t c =
    let rest = asked_pending c.args.rest.now in
    let more_is = chosen_pairs-Then _ c.as_slice-in-Same.result ∙ ap (λ ps. chosen_pairs c.args.chosen.now ++ ps) c.as_slice-in-Same.ensures in
    ok_map c.search-in-Same.result (λ r s. same_ways c.args.signature.now c.args.scope.now (chosen_pairs c.args.chosen.now) (before (asked c.args.goal.now) rest) (λ choices. with_pairs c.in-Same.pairs (rest choices))
    (λ choices. ap (λ o. and_then o rest) (ap (λ g. asked g choices) c.in-Same.is ∙ asked-Same c.in-Same.pairs choices)) r
    (searched_same c.args.signature.now c.args.scope.now (chosen_pairs c.args.chosen.now) c.in-Same.pairs rest r (subst (λ given. Searched c.args.signature.now c.args.scope.now given rest r) more_is s))) c.search-in-Same.ensures

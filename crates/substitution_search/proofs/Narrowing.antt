-- What narrower needs are met by, and that the ways to one target alone narrow those to all.
use Rattle.std.specs.Prelude.{ℕ, ◌≡◌, true, List, [], ◌∷◌, ◌++◌, map, flat_map, Some, None, Option, slice_get, refl}
use Rattle.std.specs.List.{list_all}
use Rattle.std.proofs.Common.{ap, sym, subst, ◌∙◌, zero, suc}
use Rattle.std.proofs.lemmas.List.{map-append}
use Rattle.std.proofs.lemmas.List.Concat.{flat_map-cons}
use Rattle.std.proofs.lemmas.List.Folds.{list_all-append}
use Rattle.fof_terms.proofs.LiftingLaws.{both}
use Rattle.fof_terms.specs.Vocabulary.{Vocabulary}
use Rattle.fof_terms.specs.declared.term.Term.{Term}
use Rattle.clause_form.specs.declared.clause.Lit.{Lit}
use Rattle.unify_terms.specs.declared.goal.Goal.{Goal, All}
use Rattle.unify_terms.specs.declared.pair.Pair.{Pair}
use Rattle.unify_terms.specs.declared.scope.Scope.{Scope}
use Rattle.unify_terms.specs.Goals.{pair_sorted, goal_sorted, MeetsGoal, SolvesGoal}
use Rattle.unify_terms.proofs.GoalsFacts.{goal_sorted-All, asked-All}
use Rattle.unify_terms.specs.Substitution.{image_at}
use Rattle.substitution_search.specs.code.Narrow.{Narrows, NarrowEach, IsNarrow, AreNarrow}
use Rattle.substitution_search.specs.Screens.{NeverTogether}
use Rattle.substitution_search.specs.Settled.{IsGuessed, IsSolution}
use Rattle.substitution_search.proofs.WaysFacts.{MeetsNeeds}
use Rattle.clause_rules.specs.Ways.{goal_of_need, goal_of_needs, lit_ways, absurd_ways, cover_ways, cover_needs}
use Rattle.substitution_search.proofs.Covering.{covers_forth, has_first, targets_back}
use Rattle.substitution_search.proofs.Meeting.{meets_each, met_each, solved_needs}
use Rattle.clause_rules.proofs.NeedSorts.{NeedFits, NeedsFit, goal_fits, needs_sorted}
use Rattle.substitution_search.proofs.CoveredGoals.{covered_goals}

module _ (v : Vocabulary) (scope : List ℕ) where
  parts_fit : (xs ys : List (List Pair)) → NeedFits v scope (xs ++ ys) → NeedFits v scope xs × NeedFits v scope ys
  parts_fit xs ys h = both (list_all (list_all (pair_sorted v scope)) xs) (list_all (list_all (pair_sorted v scope)) ys) (sym (list_all-append (list_all (pair_sorted v scope)) xs ys) ∙ h)

  target_fits : (f : Lit → List (List Pair)) (targets : List Lit) (i : ℕ) (l : Lit) → slice_get targets i ≡ Some l → NeedFits v scope (flat_map f targets) → NeedFits v scope (f l)
  target_fits f [] i l e h = cc
  target_fits f (k ∷ targets) zero l e h =
      let parts = parts_fit (f k) (flat_map f targets) (sym (ap (list_all (list_all (pair_sorted v scope))) (flat_map-cons f k targets)) ∙ h) in
      let same : k ≡ l = cc in
      subst (λ x. NeedFits v scope (f x)) same parts.0
  target_fits f (k ∷ targets) (suc i) l e h =
      let parts = parts_fit (f k) (flat_map f targets) (sym (ap (list_all (list_all (pair_sorted v scope))) (flat_map-cons f k targets)) ∙ h) in
      target_fits f targets i l e parts.1

  each_fits : (ns ms : List (List (List Pair))) → NarrowEach ns ms → NeedsFit v scope ns → NeedsFit v scope ms
  each_fits [] [] h g = refl
  each_fits [] (m ∷ ms) h g = absurd h
  each_fits (n ∷ ns) [] h g = absurd h
  each_fits (n ∷ ns) (m ∷ ms) h g =
      let parts = both (list_all (list_all (pair_sorted v scope)) n) (list_all (list_all (list_all (pair_sorted v scope))) ns) g in
      rw (h.0.fits v scope parts.0, each_fits ns ms h.1 parts.1) refl

  -- where the goal of the whole needs is well-sorted, so is that of the others
  pub narrow_sorted : (whole : List (List (List Pair))) (goals : List Goal) → AreNarrow whole goals → goal_sorted v scope (goal_of_needs whole) ≡ true → goal_sorted v scope (All goals) ≡ true
  narrow_sorted whole goals h g =
      let fit : NeedsFit v scope whole = sym (needs_sorted v scope whole) ∙ sym (goal_sorted-All v scope (map goal_of_need whole)) ∙ g in
      ap (λ gs. goal_sorted v scope (All gs)) h.are ∙ goal_fits v scope h.needs (each_fits whole h.needs h.narrow fit)

pub one_target : (targets : List Lit) (k : Lit) (i : ℕ) (l : Lit) → slice_get targets i ≡ Some l → Narrows (cover_ways targets k) (lit_ways k.positive k.atom l)
one_target targets k i l at = record {
  meets = λ images h. has_first images (flat_map (lit_ways k.positive k.atom) targets) (absurd_ways k.atom k.positive) (targets_back images (lit_ways k.positive k.atom) targets i l at h);
  fits = λ v scope h. target_fits v scope (lit_ways k.positive k.atom) targets i l at (parts_fit v scope (flat_map (lit_ways k.positive k.atom) targets) (absurd_ways k.atom k.positive) h).0;
}

narrow_end : (ns ms : List (List (List Pair))) (n m : List (List Pair)) → NarrowEach ns ms → Narrows n m → NarrowEach (ns ++ n ∷ []) (ms ++ m ∷ [])
narrow_end [] [] n m h g = (g, tt)
narrow_end [] (y ∷ ms) n m h g = absurd h
narrow_end (x ∷ ns) [] n m h g = absurd h
narrow_end (x ∷ ns) (y ∷ ms) n m h g = (h.0, narrow_end ns ms n m h.1 g)

-- one literal more
pub narrow_more : (targets before after : List Lit) (k : Lit) (goals more : List Goal) (goal : Goal) → after ≡ before ++ k ∷ [] → AreNarrow (cover_needs targets before) goals → IsNarrow (cover_ways targets k) goal → more ≡ goals ++ goal ∷ [] → AreNarrow (cover_needs targets after) more
narrow_more targets before after k goals more goal e h g m =
    let whole : cover_needs targets after ≡ cover_needs targets before ++ cover_ways targets k ∷ [] = ap (cover_needs targets) e ∙ map-append (cover_ways targets) before (k ∷ []) in
    record {
      needs = h.needs ++ g.need ∷ [];
      are = m ∙ ap (λ gs. gs ++ goal ∷ []) h.are ∙ ap (λ x. map goal_of_need h.needs ++ x ∷ []) g.is ∙ sym (map-append goal_of_need h.needs (g.need ∷ []));
      narrow = subst (λ ns. NarrowEach ns (h.needs ++ g.need ∷ [])) (sym whole) (narrow_end (cover_needs targets before) h.needs (cover_ways targets k) g.need h.narrow g.narrows);
    }

-- one need more, as it is
pub narrow_beside : (whole : List (List (List Pair))) (goals : List Goal) (need : List (List Pair)) → AreNarrow whole goals → AreNarrow (need ∷ whole) (goal_of_need need ∷ goals)
narrow_beside whole goals need h = record {
  needs = need ∷ h.needs;
  are = ap (λ gs. goal_of_need need ∷ gs) h.are;
  narrow = (record { meets = λ images w. w; fits = λ v scope f. f }, h.narrow);
}

each_meets : (images : List Term) (ns ms : List (List (List Pair))) → NarrowEach ns ms → MeetsNeeds images ms → MeetsNeeds images ns
each_meets images [] [] h g = tt
each_meets images [] (m ∷ ms) h g = absurd h
each_meets images (n ∷ ns) [] h g = absurd h
each_meets images (n ∷ ns) (m ∷ ms) h g = (h.0.meets images g.0, each_meets images ns ms h.1 g.1)

-- a solution of the others is one of the whole needs
pub narrow_solved : (v : Vocabulary) (scope : Scope) (whole : List (List (List Pair))) (goals : List Goal) → AreNarrow whole goals → (found : Option (List Term)) → IsSolution v scope (All goals) found → IsGuessed v scope (goal_of_needs whole) found
narrow_solved v scope whole goals h None g = tt
narrow_solved v scope whole goals h (Some images) g =
    let meets = each_meets g.0.subst whole h.needs h.narrow (solved_needs v scope h.needs (All goals) g.0 (ap All h.are) g.2) in
    let met = met_each g.0.subst whole meets in (
      record { subst = g.0.subst; choices = met.0 },
      g.1,
      (g.2.0, record { pairs = met.1; all = ap (λ w. w met.0) (asked-All (map goal_of_need whole)) ∙ met.2; unifies = met.3 }),
    )

-- the goals of all ways, as code makes them
pub all_asked : (targets lits : List Lit) (goals : List Goal) → goals ≡ map (λ k. goal_of_need (cover_ways targets k)) lits → All goals ≡ goal_of_needs (cover_needs targets lits)
all_asked targets lits goals e = ap All (e ∙ covered_goals targets lits)

pub beside_asked : (need : List (List Pair)) (targets lits : List Lit) (goals : List Goal) (goal : Goal) → goals ≡ map (λ k. goal_of_need (cover_ways targets k)) lits → goal ≡ All (goal_of_need need ∷ goals) → goal ≡ goal_of_needs (need ∷ cover_needs targets lits)
beside_asked need targets lits goals goal e g = g ∙ ap (λ gs. All (goal_of_need need ∷ gs)) (e ∙ covered_goals targets lits)

-- the same of lists that were lent
pub covers_as : (targets lits xs ys : List Lit) → xs ≡ targets → ys ≡ lits → goal_of_needs (cover_needs xs ys) ≡ goal_of_needs (cover_needs targets lits)
covers_as targets lits xs ys e f = ap (λ ks. goal_of_needs (cover_needs ks ys)) e ∙ ap (λ ks. goal_of_needs (cover_needs targets ks)) f

pub beside_as : (need : List (List Pair)) (targets lits xs ys : List Lit) → xs ≡ targets → ys ≡ lits → goal_of_needs (need ∷ cover_needs xs ys) ≡ goal_of_needs (need ∷ cover_needs targets lits)
beside_as need targets lits xs ys e f = ap (λ ks. goal_of_needs (need ∷ cover_needs ks ys)) e ∙ ap (λ ks. goal_of_needs (need ∷ cover_needs targets ks)) f

-- Where the literals never become the targets, there is no solution.
goal_meets : (images : List Term) (needs : List (List (List Pair))) (choices : List ℕ) → MeetsGoal images (goal_of_needs needs) choices → MeetsNeeds images needs
goal_meets images needs choices m = meets_each images needs choices m.pairs [] (sym (ap (λ w. w choices) (asked-All (map goal_of_need needs))) ∙ m.all) m.unifies

pub none_covers : (v : Vocabulary) (scope : Scope) (targets lits : List Lit) → NeverTogether targets lits → SolvesGoal v scope (goal_of_needs (cover_needs targets lits)) None
none_covers v scope targets lits never = λ target images sub choices m. never (image_at images) (covers_forth images targets lits (goal_meets images (cover_needs targets lits) choices m))

pub none_beside : (v : Vocabulary) (scope : Scope) (need : List (List Pair)) (targets lits : List Lit) → NeverTogether targets lits → SolvesGoal v scope (goal_of_needs (need ∷ cover_needs targets lits)) None
none_beside v scope need targets lits never = λ target images sub choices m. never (image_at images) (covers_forth images targets lits (goal_meets images (need ∷ cover_needs targets lits) choices m).1)

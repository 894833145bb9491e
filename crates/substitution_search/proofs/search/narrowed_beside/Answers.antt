use Rattle.std.proofs.Common.{ap, subst, ◌∷◌, [], ◌∙◌}
use Rattle.unify_terms.specs.Goals.{goal_sorted}
use Rattle.substitution_search.specs.Settled.{IsSolution}
use Rattle.clause_rules.specs.Ways.{cover_needs, goal_of_need, pair_of}
use Rattle.clause_rules.proofs.Firsts.{ok_map}
use Rattle.substitution_search.proofs.Narrowing.{narrow_beside, narrow_sorted, narrow_solved}
use Rattle.substitution_search.proofs.search.narrowed_beside.Goals as goal

pub settle-requires-clause-sorted : goal.settle-requires-clause-sorted
settle-requires-clause-sorted c =
    let need = (pair_of c.args.left.now c.args.right.now ∷ []) ∷ [] in
    let whole = cover_needs c.args.targets.now c.args.lits.now in
    ap (goal_sorted c.args.sig.now c.args.scope.now.sorts) c.in_ok-goal-in-Some.ensures
    ∙ narrow_sorted c.args.sig.now c.args.scope.now.sorts (need ∷ whole) (goal_of_need need ∷ c.in-Some.goals) (narrow_beside whole c.in-Some.goals need (rw c.in-Some.is at c.in_ok-goals.ensures)) c.requires.sorted

pub returns-in_ok-goal-in-Some : goal.returns-in_ok-goal-in-Some
returns-in_ok-goal-in-Some c =
    let need = (pair_of c.args.left.now c.args.right.now ∷ []) ∷ [] in
    let whole = cover_needs c.args.targets.now c.args.lits.now in
    ok_map c.settle.result
    (λ found s. narrow_solved c.args.sig.now c.args.scope.now (need ∷ whole) (goal_of_need need ∷ c.in-Some.goals) (narrow_beside whole c.in-Some.goals need (rw c.in-Some.is at c.in_ok-goals.ensures)) found (subst (λ g. IsSolution c.args.sig.now c.args.scope.now g found) c.in_ok-goal-in-Some.ensures s)) c.settle.ensures

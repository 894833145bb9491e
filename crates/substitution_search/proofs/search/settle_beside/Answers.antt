use Rattle.std.proofs.Common.{ap, subst, ◌∷◌, [], ◌∙◌}
use Rattle.unify_terms.specs.Goals.{goal_sorted}
use Rattle.substitution_search.specs.Settled.{IsSolution}
use Rattle.clause_rules.specs.Ways.{pair_of}
use Rattle.clause_rules.proofs.Firsts.{ok_map}
use Rattle.substitution_search.proofs.Narrowing.{beside_asked, none_beside}
use Rattle.substitution_search.proofs.search.settle_beside.Goals as goal

pub returns-in-Some : goal.returns-in-Some
returns-in-Some c = rw c.in-Some.is at c.in_ok-guessed.ensures

pub settle-requires-clause-sorted : goal.settle-requires-clause-sorted
settle-requires-clause-sorted c =
    ap (goal_sorted c.args.sig.now c.args.scope.now.sorts)
    (beside_asked ((pair_of c.args.left.now c.args.right.now ∷ []) ∷ []) c.args.targets.now c.args.lits.now c.in_ok-goals.goals c.in_ok-goal.goal c.in_ok-goals.ensures c.in_ok-goal.ensures) ∙ c.requires.sorted

pub returns : goal.returns
returns c =
    ok_map c.settle.result
    (λ found h. subst (λ g. IsSolution c.args.sig.now c.args.scope.now g found)
    (beside_asked ((pair_of c.args.left.now c.args.right.now ∷ []) ∷ []) c.args.targets.now c.args.lits.now c.in_ok-goals.goals c.in_ok-goal.goal c.in_ok-goals.ensures c.in_ok-goal.ensures) h) c.settle.ensures

pub returns-then-not-may_all_become : goal.returns-then-not-may_all_become
returns-then-not-may_all_become c = none_beside c.args.sig.now c.args.scope.now ((pair_of c.args.left.now c.args.right.now ∷ []) ∷ []) c.args.targets.now c.args.lits.now (c.may_all_become.ensures c.if-not-may_all_become.true)

use Rattle.std.proofs.Common.{ap, length, arith, [], refl}
use Rattle.fof_terms.specs.Scope.{scope_sorts}
use Rattle.fof_terms.specs.declared.sorting.Scope.{Outside}
use Rattle.derive_kit.proofs.Built.{ok_map}
use Rattle.clause_proofs.proofs.JointParts.{part_is}
use Rattle.clause_proofs.proofs.LineGoals.{few_sorts, scope_is}
use Rattle.rule_proofs.proofs.WholeLines.{goal_in, shown_in}
use Rattle.rule_proofs.proofs.Factors.{one_reach}
use Rattle.cover_proofs.proofs.CoverLines.{clause_exists, premise_covered, premise_sorted, premise_shown, few_there}
use Rattle.cover_proofs.proofs.cover.cover_opened.Goals as goal

pub few_variables_of-requires : goal.few_variables_of-requires
few_variables_of-requires c = omega (arith, ap length c.as_slice-own.ensures, ap length c.as_slice-sorts.ensures, few_sorts c.args.signature.now c.args.line.now c.args.opened.now.clause c.args.opened.now.is_or c.requires.line.ready c.requires.line.opening.1, c.requires.few)

pub refute_covered-requires-clause-covered : goal.refute_covered-requires-clause-covered
refute_covered-requires-clause-covered c = premise_covered c.args.signature.now c.args.clause.now c.requires.clause c.args.opened.now.clause c.args.subst.now c.requires.joint c.in_ok-images.images (part_is c.args.subst.now c.in_ok-images.images _ _ (length c.args.clause.now.clause.sorts) (length c.args.opened.now.clause.sorts) c.in_ok-images.ensures (ap length c.as_slice-sorts.ensures) (ap length c.as_slice-own.ensures)) c.args.fact c.in_ok-premise.premise c.in_ok-premise.ensures c.requires.covers

pub refute_covered-requires-clause-goal : goal.refute_covered-requires-clause-goal
refute_covered-requires-clause-goal c = goal_in c.args.signature.now c.args.line.now c.args.opened.now c.as_slice-own.result.now c.in_ok-reach.reach.more c.requires.line.ready c.requires.line.opening c.as_slice-own.ensures c.in_ok-reach.ensures.few (clause_exists c.args.signature.now c.args.clause.now c.requires.clause c.as_slice-sorts.result.now [] c.in_ok-reach.reach.more c.in_ok-reach.ensures.more refl c.as_slice-sorts.ensures) (scope_sorts (Outside c.as_slice.result)) (scope_is c.as_slice.result c.in_ok-reach.reach.sorts c.as_slice-own.result.now c.in_ok-reach.reach.more c.as_slice.ensures c.in_ok-reach.ensures.sorts)

pub refute_covered-requires-clause-sorted : goal.refute_covered-requires-clause-sorted
refute_covered-requires-clause-sorted c = premise_sorted c.args.signature.now c.args.clause.now c.requires.clause c.args.opened.now.clause c.args.subst.now c.requires.joint c.in_ok-images.images (part_is c.args.subst.now c.in_ok-images.images _ _ (length c.args.clause.now.clause.sorts) (length c.args.opened.now.clause.sorts) c.in_ok-images.ensures (ap length c.as_slice-sorts.ensures) (ap length c.as_slice-own.ensures)) c.args.fact c.in_ok-premise.premise c.in_ok-premise.ensures (scope_sorts (Outside c.as_slice.result)) (one_reach (scope_sorts (Outside c.as_slice.result)) c.as_slice-own.result.now c.as_slice-sorts.result.now [] c.args.opened.now.clause.sorts c.args.clause.now.clause.sorts c.in_ok-reach.reach.more (scope_is c.as_slice.result c.in_ok-reach.reach.sorts c.as_slice-own.result.now c.in_ok-reach.reach.more c.as_slice.ensures c.in_ok-reach.ensures.sorts) c.in_ok-reach.ensures.more refl c.as_slice-own.ensures c.as_slice-sorts.ensures)

pub returns : goal.returns
returns c =
    let sc = (goal_in c.args.signature.now c.args.line.now c.args.opened.now c.as_slice-own.result.now c.in_ok-reach.reach.more c.requires.line.ready c.requires.line.opening c.as_slice-own.ensures c.in_ok-reach.ensures.few (clause_exists c.args.signature.now c.args.clause.now c.requires.clause c.as_slice-sorts.result.now [] c.in_ok-reach.reach.more c.in_ok-reach.ensures.more refl c.as_slice-sorts.ensures) (scope_sorts (Outside c.as_slice.result)) (scope_is c.as_slice.result c.in_ok-reach.reach.sorts c.as_slice-own.result.now c.in_ok-reach.reach.more c.as_slice.ensures c.in_ok-reach.ensures.sorts)).sorted.scope_fits in
    ok_map c.closed.result
    (λ made e formulas shows. rw e (rw c.as_slice-2.ensures
    (shown_in c.args.signature.now c.args.line.now c.args.opened.now c.as_slice-own.result.now c.in_ok-reach.reach.more c.requires.line.ready c.requires.line.opening c.as_slice-own.ensures c.in_ok-reach.ensures.few (clause_exists c.args.signature.now c.args.clause.now c.requires.clause c.as_slice-sorts.result.now [] c.in_ok-reach.reach.more c.in_ok-reach.ensures.more refl c.as_slice-sorts.ensures) (scope_sorts (Outside c.as_slice.result)) formulas c.in_ok-part.part (scope_is c.as_slice.result c.in_ok-reach.reach.sorts c.as_slice-own.result.now c.in_ok-reach.reach.more c.as_slice.ensures c.in_ok-reach.ensures.sorts)
    (c.in_ok-part.ensures formulas (premise_shown c.args.signature.now c.args.clause.now c.requires.clause c.args.opened.now.clause c.args.subst.now c.requires.joint c.in_ok-images.images (part_is c.args.subst.now c.in_ok-images.images _ _ (length c.args.clause.now.clause.sorts) (length c.args.opened.now.clause.sorts) c.in_ok-images.ensures (ap length c.as_slice-sorts.ensures) (ap length c.as_slice-own.ensures)) c.args.fact c.in_ok-premise.premise c.in_ok-premise.ensures (scope_sorts (Outside c.as_slice.result)) (one_reach (scope_sorts (Outside c.as_slice.result)) c.as_slice-own.result.now c.as_slice-sorts.result.now [] c.args.opened.now.clause.sorts c.args.clause.now.clause.sorts c.in_ok-reach.reach.more (scope_is c.as_slice.result c.in_ok-reach.reach.sorts c.as_slice-own.result.now c.in_ok-reach.reach.more c.as_slice.ensures c.in_ok-reach.ensures.sorts) c.in_ok-reach.ensures.more refl c.as_slice-own.ensures c.as_slice-sorts.ensures) formulas sc (few_there c.as_slice.result c.in_ok-reach.reach.sorts c.as_slice.ensures (omega (arith, c.if-len-gt900000000.false, c.len.ensures))) shows)))))
    c.closed.ensures

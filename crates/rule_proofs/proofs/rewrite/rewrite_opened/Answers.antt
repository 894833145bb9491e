use Rattle.std.proofs.Common.{ap, length}
use Rattle.fof_terms.specs.Scope.{scope_sorts}
use Rattle.fof_terms.specs.declared.sorting.Scope.{Outside}
use Rattle.derive_kit.proofs.Built.{ok_map}
use Rattle.rule_proofs.proofs.Chains.{rewriting_here, equation_sorted, clause_shown, equation_shown, matching_size, joint_size}
use Rattle.rule_proofs.proofs.FewImages.{few_images}
use Rattle.clause_proofs.proofs.JointParts.{part_is}
use Rattle.rule_proofs.proofs.Joints.{reach_is, parents_exist}
use Rattle.clause_proofs.proofs.LineGoals.{scope_is}
use Rattle.rule_proofs.proofs.WholeLines.{goal_in, shown_in}
use Rattle.rule_proofs.proofs.rewrite.rewrite_opened.Goals as goal

pub chained-requires-clause-matching : goal.chained-requires-clause-matching
chained-requires-clause-matching c = matching_size c.args.signature.now c.args.left_opened.now.clause c.args.right_opened.now.clause c.args.change.now.matching c.requires.matched

pub chained-requires-clause-subst : goal.chained-requires-clause-subst
chained-requires-clause-subst c = joint_size c.args.signature.now c.args.opened.now.clause c.args.left_opened.now.clause c.args.right_opened.now.clause c.args.subst.now c.requires.joint

pub rewriting-requires-clause-few : goal.rewriting-requires-clause-few
rewriting-requires-clause-few c = few_images c.args.signature.now c.args.left.now.form c.args.left_opened.now c.args.subst.now c.in_ok-images.images (length c.args.opened.now.clause.sorts) c.requires.left (part_is c.args.subst.now c.in_ok-images.images _ _ (length c.args.left_opened.now.clause.sorts) (length c.args.opened.now.clause.sorts) c.in_ok-images.ensures (ap length c.as_slice-left_sorts.ensures) (ap length c.as_slice-own.ensures))

pub rewriting-requires-clause-rewriting : goal.rewriting-requires-clause-rewriting
rewriting-requires-clause-rewriting c =
    rewriting_here c.args.signature.now c.args.opened.now.clause c.args.change.now.matching c.args.subst.now c.args.left.now.form c.args.right.now.form c.args.left_opened.now c.args.right_opened.now c.requires.left c.requires.right c.requires.matched c.requires.joint c.in_ok-left_images.left_images c.in_ok-right_images.right_images (part_is c.args.subst.now c.in_ok-left_images.left_images _ _ (length c.args.left_opened.now.clause.sorts) (length c.args.opened.now.clause.sorts) c.in_ok-left_images.ensures (ap length c.as_slice-left_sorts.ensures) (ap length c.as_slice-own.ensures)) c.in_ok-right_images.ensures c.args.left.now.number c.args.right.now.number c.in_ok-left_premise.left_premise c.in_ok-right_premise.right_premise c.in_ok-left_premise.ensures c.in_ok-right_premise.ensures (scope_sorts (Outside c.as_slice.result)) (reach_is (scope_sorts (Outside c.as_slice.result)) c.as_slice-own.result.now c.as_slice-left_sorts.result.now c.as_slice-right_sorts.result.now c.args.opened.now.clause.sorts c.args.left_opened.now.clause.sorts c.args.right_opened.now.clause.sorts c.in_ok-reach.reach.more (scope_is c.as_slice.result c.in_ok-reach.reach.sorts c.as_slice-own.result.now c.in_ok-reach.reach.more c.as_slice.ensures c.in_ok-reach.ensures.sorts) c.in_ok-reach.ensures.more c.as_slice-own.ensures c.as_slice-left_sorts.ensures c.as_slice-right_sorts.ensures)
    c.args.change.now.target c.args.change.now.flipped c.requires.rewrites c.in_ok-images.images c.as_slice-lits.result.now (part_is c.args.subst.now c.in_ok-images.images _ _ (length c.args.left_opened.now.clause.sorts) (length c.args.opened.now.clause.sorts) c.in_ok-images.ensures (ap length c.as_slice-left_sorts.ensures) (ap length c.as_slice-own.ensures)) c.as_slice-lits.ensures

pub rewriting-requires-clause-goal : goal.rewriting-requires-clause-goal
rewriting-requires-clause-goal c =
    goal_in c.args.signature.now c.args.line.now c.args.opened.now c.as_slice-own.result.now c.in_ok-reach.reach.more c.requires.line.ready c.requires.line.opening c.as_slice-own.ensures c.in_ok-reach.ensures.few (parents_exist c.args.signature.now c.args.left.now.form c.args.right.now.form c.args.left_opened.now c.args.right_opened.now c.as_slice-left_sorts.result.now c.as_slice-right_sorts.result.now c.in_ok-reach.reach.more c.requires.left c.requires.right c.in_ok-reach.ensures.more c.as_slice-left_sorts.ensures c.as_slice-right_sorts.ensures)
    (scope_sorts (Outside c.as_slice.result)) (scope_is c.as_slice.result c.in_ok-reach.reach.sorts c.as_slice-own.result.now c.in_ok-reach.reach.more c.as_slice.ensures c.in_ok-reach.ensures.sorts)

pub rewriting-requires-clause-from : goal.rewriting-requires-clause-from
rewriting-requires-clause-from c = equation_sorted c.args.signature.now c.args.opened.now.clause c.args.change.now.matching c.args.subst.now c.args.left.now.form c.args.right.now.form c.args.left_opened.now c.args.right_opened.now c.requires.left c.requires.right c.requires.matched c.requires.joint c.in_ok-left_images.left_images c.in_ok-right_images.right_images (part_is c.args.subst.now c.in_ok-left_images.left_images _ _ (length c.args.left_opened.now.clause.sorts) (length c.args.opened.now.clause.sorts) c.in_ok-left_images.ensures (ap length c.as_slice-left_sorts.ensures) (ap length c.as_slice-own.ensures)) c.in_ok-right_images.ensures c.args.left.now.number c.args.right.now.number c.in_ok-left_premise.left_premise c.in_ok-right_premise.right_premise c.in_ok-left_premise.ensures c.in_ok-right_premise.ensures (scope_sorts (Outside c.as_slice.result)) (reach_is (scope_sorts (Outside c.as_slice.result)) c.as_slice-own.result.now c.as_slice-left_sorts.result.now c.as_slice-right_sorts.result.now c.args.opened.now.clause.sorts c.args.left_opened.now.clause.sorts c.args.right_opened.now.clause.sorts c.in_ok-reach.reach.more (scope_is c.as_slice.result c.in_ok-reach.reach.sorts c.as_slice-own.result.now c.in_ok-reach.reach.more c.as_slice.ensures c.in_ok-reach.ensures.sorts) c.in_ok-reach.ensures.more c.as_slice-own.ensures c.as_slice-left_sorts.ensures c.as_slice-right_sorts.ensures)

pub returns : goal.returns
returns c =
    let sc = (goal_in c.args.signature.now c.args.line.now c.args.opened.now c.as_slice-own.result.now c.in_ok-reach.reach.more c.requires.line.ready c.requires.line.opening c.as_slice-own.ensures c.in_ok-reach.ensures.few (parents_exist c.args.signature.now c.args.left.now.form c.args.right.now.form c.args.left_opened.now c.args.right_opened.now c.as_slice-left_sorts.result.now c.as_slice-right_sorts.result.now c.in_ok-reach.reach.more c.requires.left c.requires.right c.in_ok-reach.ensures.more c.as_slice-left_sorts.ensures c.as_slice-right_sorts.ensures) (scope_sorts (Outside c.as_slice.result)) (scope_is c.as_slice.result c.in_ok-reach.reach.sorts c.as_slice-own.result.now c.in_ok-reach.reach.more c.as_slice.ensures c.in_ok-reach.ensures.sorts)).sorted.scope_fits in
    ok_map c.closed.result
    (λ made e formulas tl tr. rw e (rw c.as_slice-2.ensures
    (shown_in c.args.signature.now c.args.line.now c.args.opened.now c.as_slice-own.result.now c.in_ok-reach.reach.more c.requires.line.ready c.requires.line.opening c.as_slice-own.ensures c.in_ok-reach.ensures.few (parents_exist c.args.signature.now c.args.left.now.form c.args.right.now.form c.args.left_opened.now c.args.right_opened.now c.as_slice-left_sorts.result.now c.as_slice-right_sorts.result.now c.in_ok-reach.reach.more c.requires.left c.requires.right c.in_ok-reach.ensures.more c.as_slice-left_sorts.ensures c.as_slice-right_sorts.ensures)
    (scope_sorts (Outside c.as_slice.result)) formulas c.in_ok-part.part (scope_is c.as_slice.result c.in_ok-reach.reach.sorts c.as_slice-own.result.now c.in_ok-reach.reach.more c.as_slice.ensures c.in_ok-reach.ensures.sorts)
    (c.in_ok-part.ensures formulas
    (clause_shown c.args.signature.now c.args.opened.now.clause c.args.change.now.matching c.args.subst.now c.args.left.now.form c.args.right.now.form c.args.left_opened.now c.args.right_opened.now c.requires.left c.requires.right c.requires.matched c.requires.joint c.in_ok-left_images.left_images c.in_ok-right_images.right_images (part_is c.args.subst.now c.in_ok-left_images.left_images _ _ (length c.args.left_opened.now.clause.sorts) (length c.args.opened.now.clause.sorts) c.in_ok-left_images.ensures (ap length c.as_slice-left_sorts.ensures) (ap length c.as_slice-own.ensures)) c.in_ok-right_images.ensures c.args.left.now.number c.args.right.now.number c.in_ok-left_premise.left_premise c.in_ok-right_premise.right_premise c.in_ok-left_premise.ensures c.in_ok-right_premise.ensures (scope_sorts (Outside c.as_slice.result)) (reach_is (scope_sorts (Outside c.as_slice.result)) c.as_slice-own.result.now c.as_slice-left_sorts.result.now c.as_slice-right_sorts.result.now c.args.opened.now.clause.sorts c.args.left_opened.now.clause.sorts c.args.right_opened.now.clause.sorts c.in_ok-reach.reach.more (scope_is c.as_slice.result c.in_ok-reach.reach.sorts c.as_slice-own.result.now c.in_ok-reach.reach.more c.as_slice.ensures c.in_ok-reach.ensures.sorts) c.in_ok-reach.ensures.more c.as_slice-own.ensures c.as_slice-left_sorts.ensures c.as_slice-right_sorts.ensures) formulas sc tl)
    (equation_shown c.args.signature.now c.args.opened.now.clause c.args.change.now.matching c.args.subst.now c.args.left.now.form c.args.right.now.form c.args.left_opened.now c.args.right_opened.now c.requires.left c.requires.right c.requires.matched c.requires.joint c.in_ok-left_images.left_images c.in_ok-right_images.right_images (part_is c.args.subst.now c.in_ok-left_images.left_images _ _ (length c.args.left_opened.now.clause.sorts) (length c.args.opened.now.clause.sorts) c.in_ok-left_images.ensures (ap length c.as_slice-left_sorts.ensures) (ap length c.as_slice-own.ensures)) c.in_ok-right_images.ensures c.args.left.now.number c.args.right.now.number c.in_ok-left_premise.left_premise c.in_ok-right_premise.right_premise c.in_ok-left_premise.ensures c.in_ok-right_premise.ensures (scope_sorts (Outside c.as_slice.result)) (reach_is (scope_sorts (Outside c.as_slice.result)) c.as_slice-own.result.now c.as_slice-left_sorts.result.now c.as_slice-right_sorts.result.now c.args.opened.now.clause.sorts c.args.left_opened.now.clause.sorts c.args.right_opened.now.clause.sorts c.in_ok-reach.reach.more (scope_is c.as_slice.result c.in_ok-reach.reach.sorts c.as_slice-own.result.now c.in_ok-reach.reach.more c.as_slice.ensures c.in_ok-reach.ensures.sorts) c.in_ok-reach.ensures.more c.as_slice-own.ensures c.as_slice-left_sorts.ensures c.as_slice-right_sorts.ensures) formulas sc tr)))))
    c.closed.ensures

use Rattle.std.proofs.Common.{rules}
use Rattle.fof_terms.specs.Scope.{scope_sorts}
use Rattle.clause_proofs.specs.Refuting.{body}
use Rattle.clause_proofs.proofs.CoveredLiterals.{in_line_sorted}
use Rattle.clause_proofs.proofs.LineGoals.{own_covered}
use Rattle.split_defs.proofs.ArmLoops.{all_made, arm_there, next_arms, start_arms}
use Rattle.split_defs.proofs.arms.push_arms.Goals as goal

pub loop-lit-init : goal.loop-lit-init
loop-lit-init c = start_arms c.args.sig.now (scope_sorts c.args.scope.now) c.args.denial (body c.args.goal.now) c.as_slice-lits.result.now c.args.arms.now

pub contrary-requires-clause-covered : goal.contrary-requires-clause-covered
contrary-requires-clause-covered c =
    own_covered c.args.goal.now.clause.lits c.loop-lit.lit-index c.lit-item.result (arm_there c.args.goal.now.clause.lits c.as_slice-lits.result.now c.loop-lit.lit-index c.lit-item.result c.as_slice-lits.ensures c.loop-lit-test.true c.lit-item.is)

pub contrary-requires-clause-sorted : goal.contrary-requires-clause-sorted
contrary-requires-clause-sorted c =
    in_line_sorted c.args.sig.now (scope_sorts c.args.scope.now) c.args.goal.now c.loop-lit.lit-index c.lit-item.result c.requires (arm_there c.args.goal.now.clause.lits c.as_slice-lits.result.now c.loop-lit.lit-index c.lit-item.result c.as_slice-lits.ensures c.loop-lit-test.true c.lit-item.is)

pub loop-lit-preserved : goal.loop-lit-preserved
loop-lit-preserved c =
    next_arms c.args.sig.now (scope_sorts c.args.scope.now) c.args.denial (body c.args.goal.now) c.as_slice-lits.result.now c.args.arms.now c.loop-lit.arms _ c.loop-lit.lit-index c.lit-item.result c.in_ok-arm.arm c.loop-lit-test.true c.lit-item.is (search rules) c.loop-lit.invariant c.in_ok-arm.ensures

pub returns : goal.returns
returns c = all_made c.args.sig.now (scope_sorts c.args.scope.now) c.args.denial (body c.args.goal.now) c.args.goal.now.clause.lits c.as_slice-lits.result.now c.args.arms.now c.loop-lit.arms c.loop-lit.lit-index c.as_slice-lits.ensures c.loop-lit-test.false c.loop-lit.invariant

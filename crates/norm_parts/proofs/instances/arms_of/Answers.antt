use Rattle.norm_parts.proofs.InstanceParts.{arms_next, arms_last}
use Rattle.norm_parts.proofs.instances.arms_of.Goals as goal

pub loop-at-preserved : goal.loop-at-preserved
loop-at-preserved c =
    arms_next c.args.goal.now c.args.literals.now c.loop-at.at c.index-literals-at.result c.loop-at.arms c.push.new.self c.in-Some.arm c.into_inner.result c.loop-at-test.true c.index-literals-at.is c.loop-at.invariant (rw c.in-Some.is at c.in_ok-arm.ensures)
    c.into_inner.ensures c.in_ok-push-in-Some.ensures.ok

pub returns : goal.returns
returns c = arms_last c.args.goal.now c.args.literals.now c.loop-at.at c.loop-at.arms c.loop-at-test.false c.loop-at.invariant

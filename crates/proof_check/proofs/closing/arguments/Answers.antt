use Rattle.proof_check.proofs.Added.{variables_more}
use Rattle.proof_check.proofs.closing.arguments.Goals as goal

pub loop-i-preserved : goal.loop-i-preserved
loop-i-preserved c = rw c.in_ok-push.ensures.ok (variables_more c.loop-i.terms c.args.count c.loop-i.i c.loop-i-test.true c.loop-i.invariant)

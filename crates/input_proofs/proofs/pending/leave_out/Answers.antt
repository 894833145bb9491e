use Rattle.input_proofs.proofs.PendingFacts.{left_more}
use Rattle.input_proofs.proofs.pending.leave_out.Goals as goal

pub loop-mark-preserved : goal.loop-mark-preserved
loop-mark-preserved c = left_more c.args.wanted.now c.loop-mark._mark-index c.args.pending.now c.loop-mark.pending c.push.new.self c.loop-mark-test.true c.loop-mark.invariant c.in_ok-push.ensures.ok

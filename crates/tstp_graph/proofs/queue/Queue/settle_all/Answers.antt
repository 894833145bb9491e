use Rattle.tstp_graph.specs.code.Flags.{flag_at}
use Rattle.tstp_graph.proofs.Settling.{settled_here}
use Rattle.tstp_graph.proofs.queue.Queue.settle_all.Goals as goal

pub loop-waiter-preserved : goal.loop-waiter-preserved
loop-waiter-preserved c =
    settled_here c.args.nodes.now (flag_at c.args.taken.now) c.loop-waiter.self.ready c.settle.new.self.ready c.loop-waiter.self.waiting.items c.settle.new.self.waiting.items c.args.waiters.now c.loop-waiter.waiter-index _ c.loop-waiter-test.true c.loop-waiter.invariant c.in_ok-settle.ensures

use Rattle.std.proofs.Common.{refl}
use Rattle.tstp_graph.specs.code.Flags.{flag_at}
use Rattle.tstp_graph.proofs.Settling.{loose_first, settled_next}
use Rattle.tstp_graph.proofs.queue.Queue.of.Goals as goal

pub settle-requires : goal.settle-requires
settle-requires c = loose_first c.args.nodes.now (flag_at c.args.taken.now) _ c.loop-number-test.true refl (c.requires.taken c.loop-number.number)

pub loop-number-preserved : goal.loop-number-preserved
loop-number-preserved c =
    settled_next c.args.nodes.now (flag_at c.args.taken.now) c.loop-number.queue.ready c.settle.new.self.ready c.loop-number.queue.waiting.items c.settle.new.self.waiting.items c.loop-number.number c.loop-number.invariant c.in_ok-settle.ensures

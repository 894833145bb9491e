use Rattle.std.proofs.Common.{drop}
use Rattle.tstp_graph.specs.code.Flags.{flag_at}
use Rattle.tstp_graph.specs.code.Queue.{has_number, IsQueue}
use Rattle.tstp_graph.proofs.queue.Queue.settle_all.Given as goal

abbrev pub invariant-loop-waiter : goal.invariant-loop-waiter
invariant-loop-waiter l = IsQueue l.nodes (flag_at l.taken) (has_number (drop l.waiter-index l.waiters)) l.self.ready l.self.waiting.items

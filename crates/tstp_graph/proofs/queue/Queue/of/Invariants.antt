use Rattle.tstp_graph.specs.code.Flags.{flag_at}
use Rattle.tstp_graph.specs.code.Queue.{IsQueue}
use Rattle.tstp_graph.proofs.Settling.{from_number}
use Rattle.tstp_graph.proofs.queue.Queue.of.Given as goal

abbrev pub invariant-loop-number : goal.invariant-loop-number
invariant-loop-number l = IsQueue l.nodes (flag_at l.taken) (from_number l.number) l.queue.ready l.queue.waiting.items

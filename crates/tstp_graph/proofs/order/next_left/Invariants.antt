use Rattle.std.proofs.Common.{◌≡◌, drop}
use Rattle.tstp_graph.specs.Order.{first_left}
use Rattle.tstp_graph.specs.code.Flags.{flag_at}
use Rattle.tstp_graph.proofs.order.next_left.Given as goal

abbrev pub invariant-loop-number : goal.invariant-loop-number
invariant-loop-number l = first_left (flag_at l.taken) 0 l.nodes ≡ first_left (flag_at l.taken) l.number (drop l.number l.nodes)

use Rattle.std.proofs.Common.{◌≡◌, length}
use Rattle.tstp_graph.specs.code.Flags.{flag_at}
use Rattle.tstp_graph.specs.code.Queue.{no_number, IsQueue}
use Rattle.tstp_graph.proofs.Orders.{SoFar, left}
use Rattle.tstp_graph.proofs.order.order_of.Given as goal

abbrev pub invariant-take : goal.invariant-take
invariant-take l = record {
  so_far : SoFar l.nodes l.taken.items l.order;
  len : length l.taken.items ≡ length l.nodes;
  queue : IsQueue l.nodes (flag_at l.taken.items) no_number l.queue.ready l.queue.waiting.items;
}

abbrev pub decreases-take : goal.decreases-take
decreases-take l = left l.taken.items

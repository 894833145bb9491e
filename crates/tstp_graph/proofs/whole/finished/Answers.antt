use Rattle.tstp_graph.proofs.Orders.{left_within}
use Rattle.tstp_graph.proofs.whole.finished.Goals as goal

pub cycle-requires-clause-number : goal.cycle-requires-clause-number
cycle-requires-clause-number c = rw c.as_slice.ensures (left_within c.args.nodes c.args.ordered.order c.args.ordered.left c.in-Some.number c.requires.left c.in-Some.is)

use Rattle.derivation_order.proofs.Alike.{one_graph}
use Rattle.derivation_order.proofs.laws.items_alike_have_one_graph.Goals as goal

pub returns : goal.returns
returns c = λ items others given graph same is. one_graph items others same given graph is

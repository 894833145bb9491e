use Rattle.derivation_order.proofs.Graphed.{graph_of_lines}
use Rattle.derivation_order.proofs.laws.linked_lines_have_a_graph.Goals as goal

pub returns : goal.returns
returns c = λ file v first given lines items numerals linked within. graph_of_lines file v first given numerals lines linked items within

use Rattle.std.proofs.Common.{◌≡◌, ◌≤◌, [], length, drop}
use Rattle.tstp_graph.specs.code.Meaning.{means_in}
use Rattle.tstp_graph.specs.code.Nodes.{nodes_from}
use Rattle.tstp_graph.proofs.node.nodes_of.Given as goal

abbrev pub invariant-loop-item : goal.invariant-loop-item
invariant-loop-item l = record {
  at : l.at ≡ l.item-index;
  few : length l.nodes ≤ l.item-index;
  so_far : nodes_from (means_in l.scope) 0 l.items [] ≡ nodes_from (means_in l.scope) l.item-index (drop l.item-index l.items) l.nodes;
}

use Rattle.tstp_graph.specs.code.Meaning.{means_in}
use Rattle.tstp_graph.proofs.Lined.{are_lines}
use Rattle.tstp_graph.proofs.Wholes.{whole_graph, whole_cycle, item_fault}
use Rattle.tstp_graph.proofs.whole.graph_over.Goals as goal

pub graph_of-requires-clause-lines : goal.graph_of-requires-clause-lines
graph_of-requires-clause-lines c = are_lines (means_in c.args.scope.now) c.args.items.now c.in-Ok.nodes c.in-Ok.ensures.nodes

pub returns-in-Ok-clause-graph : goal.returns-in-Ok-clause-graph
returns-in-Ok-clause-graph c = whole_graph (means_in c.args.scope.now) c.args.items.now c.in-Ok.nodes c.graph_of.result c.in-Ok.ensures.nodes c.graph_of.ensures.graph

pub returns-in-Ok-clause-fault : goal.returns-in-Ok-clause-fault
returns-in-Ok-clause-fault c = whole_cycle (means_in c.args.scope.now) c.args.items.now c.in-Ok.nodes c.graph_of.result c.in-Ok.ensures.nodes c.graph_of.ensures.fault

pub returns-in-Err-clause-fault : goal.returns-in-Err-clause-fault
returns-in-Err-clause-fault c = item_fault (means_in c.args.scope.now) c.args.items.now c.in-Err.fault c.in-Err.ensures.nodes

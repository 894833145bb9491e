use Rattle.std.proofs.Common.{arith}
use Rattle.tstp_graph.specs.code.Meaning.{means_in}
use Rattle.tstp_graph.proofs.Wholes.{known_graph, known_fault, wanting}
use Rattle.tstp_graph.proofs.whole.graph.Goals as goal

pub returns-in-Ok-clause-graph : goal.returns-in-Ok-clause-graph
returns-in-Ok-clause-graph c = known_graph c.args.items.now c.args.given.now (means_in c.in-Ok.scope) c.graph_over.result (λ over. omega (arith, over)) c.in-Ok.ensures c.graph_over.ensures.graph

pub returns-in-Ok-clause-fault : goal.returns-in-Ok-clause-fault
returns-in-Ok-clause-fault c = known_fault c.args.items.now c.args.given.now (means_in c.in-Ok.scope) c.graph_over.result (λ over. omega (arith, over)) c.in-Ok.ensures c.graph_over.ensures.fault

pub returns-in-Err-clause-fault : goal.returns-in-Err-clause-fault
returns-in-Err-clause-fault c = wanting c.args.items.now c.args.given.now (λ over. omega (arith, over))

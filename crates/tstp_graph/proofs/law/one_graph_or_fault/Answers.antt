use Rattle.tstp_graph.proofs.OneGraph.{one_graph, one_fault, graph_or_fault}
use Rattle.tstp_graph.proofs.law.one_graph_or_fault.Goals as goal

pub returns-clause-one : goal.returns-clause-one
returns-clause-one c = one_graph

pub returns-clause-first : goal.returns-clause-first
returns-clause-first c = one_fault

pub returns-clause-never_both : goal.returns-clause-never_both
returns-clause-never_both c = graph_or_fault

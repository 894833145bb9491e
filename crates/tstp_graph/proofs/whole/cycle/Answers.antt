use Rattle.tstp_graph.proofs.Wholes.{formula_of_line, cycle_node, in_nodes}
use Rattle.tstp_graph.proofs.whole.cycle.Goals as goal

pub cycle_of-requires : goal.cycle_of-requires
cycle_of-requires c = formula_of_line c.args.items.now c.args.nodes.now c.args.number c.in-Some.node.now c.requires.lines c.in-Some.ensures

pub returns : goal.returns
returns c = cycle_node c.args.items.now c.args.nodes.now c.args.number c.in-Some.node.now c.cycle_of.result c.in-Some.ensures c.cycle_of.ensures

pub unreachable-requires : goal.unreachable-requires
unreachable-requires c = in_nodes c.args.nodes.now c.args.number c.requires.number c.in-None.ensures

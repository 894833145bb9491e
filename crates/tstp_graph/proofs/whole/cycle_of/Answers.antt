use Rattle.tstp_graph.proofs.Wholes.{is_formula_at, cycle_item, no_item}
use Rattle.tstp_graph.proofs.whole.cycle_of.Goals as goal

pub cycle_in-requires : goal.cycle_in-requires
cycle_in-requires c = is_formula_at c.args.items.now c.args.number c.in-Some.item.now c.requires c.in-Some.ensures

pub returns : goal.returns
returns c = cycle_item c.args.items.now c.args.number c.in-Some.item.now c.cycle_in.result c.in-Some.ensures c.cycle_in.ensures

pub unreachable-requires : goal.unreachable-requires
unreachable-requires c = no_item c.args.items.now c.args.number c.requires c.in-None.ensures

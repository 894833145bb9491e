use Rattle.tstp_graph.proofs.Wholes.{cycle_formula}
use Rattle.tstp_graph.proofs.whole.cycle_in.Goals as goal

pub returns : goal.returns
returns c = cycle_formula c.args.item.now c.in-Formula.formula c.get.result.now c.cycle_at.result c.in-Formula.is c.get.ensures c.cycle_at.ensures

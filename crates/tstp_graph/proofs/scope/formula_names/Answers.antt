use Rattle.std.proofs.Common.{take, arith}
use Rattle.tstp_graph.specs.Lines.{names_in}
use Rattle.tstp_graph.proofs.Places.{holds_more, holds_items}
use Rattle.tstp_graph.proofs.scope.formula_names.Goals as goal

pub loop-item-preserved : goal.loop-item-preserved
loop-item-preserved c = record {
  few = omega (arith, c.in_ok-add_item.ensures.count, c.loop-item.invariant.few);
  holds = holds_more c.add_item.new.table c.args.is_type c.args.items.now c.loop-item.item-index c.item-item.result c.loop-item-test.true c.item-item.is
      (c.in_ok-add_item.ensures.holds (names_in c.args.is_type (take c.loop-item.item-index c.args.items.now)) c.loop-item.invariant.holds);
}

pub returns : goal.returns
returns c = holds_items c.loop-item.table c.args.is_type c.args.items.now c.loop-item.item-index c.loop-item-test.false c.loop-item.invariant.holds

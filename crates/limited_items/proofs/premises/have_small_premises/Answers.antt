use Rattle.limited_items.specs.code.Amounts.{large_count}
use Rattle.limited_items.proofs.AmountFacts.{totals_more, totals_none}
use Rattle.limited_items.proofs.PlaceFacts.{hold_more, hold_none}
use Rattle.limited_items.proofs.PremiseFacts.{IsSmallAt, all_small, not_small, small_here}
use Rattle.limited_items.proofs.premises.have_small_premises.Goals as goal

pub loop-line-init : goal.loop-line-init
loop-line-init c = record {
  totals = totals_none large_count c.new-large.result c.new-large.ensures;
  small = hold_none (IsSmallAt c.args.lines.now) c.args.lines.now;
}

pub returns-then-is_from_large : goal.returns-then-is_from_large
returns-then-is_from_large c =
    not_small c.args.lines.now c.loop-line.line-index c.line-item.result c.loop-line.large c.is_from_large.result c.loop-line-test.true c.line-item.is c.loop-line.invariant.totals c.is_from_large.ensures c.if-is_from_large.true

pub loop-line-preserved : goal.loop-line-preserved
loop-line-preserved c = record {
  totals = totals_more large_count c.args.lines.now c.loop-line.line-index c.line-item.result c.as_slice.result.now c.large_count.result c.loop-line.large c.add.new.self c.loop-line-test.true c.line-item.is c.loop-line.invariant.totals c.as_slice.ensures c.large_count.ensures c.in_ok-add.ensures;
  small = hold_more (IsSmallAt c.args.lines.now) c.args.lines.now c.loop-line.line-index c.line-item.result c.loop-line-test.true c.line-item.is c.loop-line.invariant.small
      (small_here c.args.lines.now c.loop-line.line-index c.line-item.result c.loop-line.large c.is_from_large.result c.loop-line.invariant.totals c.is_from_large.ensures c.if-is_from_large.false);
}

pub returns : goal.returns
returns c = all_small c.args.lines.now c.loop-line.line-index c.loop-line-test.false c.loop-line.invariant.small

use Rattle.std.proofs.Common.{take}
use Rattle.limited_items.specs.code.Amounts.{large_count}
use Rattle.limited_items.proofs.AmountFacts.{AreTotals}
use Rattle.limited_items.proofs.PlaceFacts.{HoldUpTo}
use Rattle.limited_items.proofs.PremiseFacts.{IsSmallAt}
use Rattle.limited_items.proofs.premises.have_small_premises.Given as goal

abbrev pub invariant-loop-line : goal.invariant-loop-line
invariant-loop-line l = record {
  totals : AreTotals large_count (take l.line-index l.lines) l.large;
  small : HoldUpTo (IsSmallAt l.lines) l.lines l.line-index;
}

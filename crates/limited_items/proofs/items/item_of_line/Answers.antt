use Rattle.std.proofs.Common.{arith, refl}
use Rattle.limited_items.proofs.PrintedFacts.{deep, printed}
use Rattle.limited_items.proofs.items.item_of_line.Goals as goal

pub returns-then-not-nests_within-clause-limit : goal.returns-then-not-nests_within-clause-limit
returns-then-not-nests_within-clause-limit c = (
  c.in_ok-formula.formula,
  record { denotes = c.in_ok-formula.ensures.denotes; numbered = c.in_ok-formula.ensures.named },
  deep _ c.if-not-nests_within.ensures.1,
)

pub returns-clause-item : goal.returns-clause-item
returns-clause-item c =
    printed c.args.file.now c.args.sig.now c.args.line.now c.in_ok-formula.formula c.in_ok-line_item.field-0 c.as_slice.result.now c.bound_count.result (record { denotes = c.in_ok-formula.ensures.denotes; numbered = c.in_ok-formula.ensures.named }) c.bound_count.ensures (omega arith)
    (c.if-not-nests_within.ensures.0 refl) c.as_slice.ensures c.in_ok-line_item.ensures

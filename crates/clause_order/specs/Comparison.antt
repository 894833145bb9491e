-- The four answers of a comparison in the Knuth-Bendix order.
use Rattle.std.specs.Prelude.{◌≡◌}
use Rattle.fof_terms.specs.declared.term.Term.{Term}
use Rattle.clause_order.specs.Order.{IsGreater}
use Rattle.clause_order.specs.declared.comparison.Compare.{Compare}
use Rattle.clause_order.specs.declared.comparison.Compare.TheVariants.{Less, Equal, Greater, Apart}

abbrev pub IsComparison : Term → Term → Compare → Type 0
IsComparison left right Less = IsGreater right left
IsComparison left right Equal = left ≡ right
IsComparison left right Greater = IsGreater left right
IsComparison left right Apart =
    (left ≡ right → ⊥) × (IsGreater left right → ⊥) × (IsGreater right left → ⊥)

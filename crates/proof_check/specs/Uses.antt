-- Marks at the numbers of symbols, which tell the symbols that stand in some formula.
use Rattle.std.specs.Prelude.{ℕ, ◌≡◌, Bool, false, List, get_or}
use Rattle.std.specs.List.{list_any}
use Rattle.fof_terms.specs.Occurs.{occurs_in}
use Rattle.fof_terms.specs.declared.form.Form.{Form}

-- the number is there and marked
abbrev pub is_marked : List Bool → ℕ → Bool
is_marked marks k = get_or marks k false

-- exactly the symbols that stand in some of the formulas are marked
pub record HasUsed (used : List Bool) (formulas : List Form) : Type 0 where
  pub marks : (symbol : ℕ) → is_marked used symbol ≡ list_any (occurs_in symbol) formulas

-- The interpretation that tables of values make.
use Rattle.std.specs.Prelude.{ℕ, if◌then◌else◌, List, get_or, slice_get, Option, Some, None}
use Rattle.fi_model.specs.declared.model.FiniteModel.{FiniteModel}
use Rattle.fi_model.specs.declared.table.Table.{Table}
use Rattle.fi_model.specs.Cells.{are_within, cell}
use Rattle.fi_model.specs.Interpretations.{Interpretation}

-- the value at these elements, and 0 where they are not there
abbrev pub table_value : Table → List ℕ → ℕ
table_value t args = if are_within t.sizes args then get_or t.values (cell t.sizes args) 0 else 0

abbrev pub value_in : Option Table → List ℕ → ℕ
value_in None args = 0
value_in (Some t) args = table_value t args

-- the interpretation that a model of tables is
abbrev pub interpretation : FiniteModel → Interpretation
interpretation m = record { domains = m.domains; value = λ symbol args. value_in (slice_get m.tables symbol) args }

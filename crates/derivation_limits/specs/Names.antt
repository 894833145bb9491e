-- The same of names of items.
use Rattle.std.specs.Prelude.{ℕ, ◌≡◌, ◌+◌, if◌then◌else◌}
use Rattle.tptp_base.specs.declared.name.Name.{Name}
use Rattle.tptp_base.specs.declared.name.Name.TheVariants.{Word, Integer}
use Rattle.tstp_graph.specs.Tables.{same_name}
use Rattle.derivation_limits.specs.Totals.{capped, total_of}
use Rattle.derivation_limits.specs.declared.names.NameTotals.{NameTotals}

-- the total of a name in a table
abbrev pub total_of_name : NameTotals → Name → ℕ
total_of_name table (Word word) = total_of table.words word
total_of_name table (Integer number) = total_of table.integers number

-- the second table is the first with this amount more at this name
abbrev pub AddsName : NameTotals → Name → ℕ → NameTotals → Type 0
AddsName old name amount new = (other : Name) → total_of_name new other ≡ (if same_name name other then capped (total_of_name old other + amount) else total_of_name old other)

-- the table has no names
abbrev pub HasNone : NameTotals → Type 0
HasNone table = (name : Name) → total_of_name table name ≡ 0

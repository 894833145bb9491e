-- Tables that have a total for each of some names.
use Rattle.std.specs.Prelude.{ℕ, ◌≡◌, ◌+◌, ◌-◌, ◌^◌, min, List, if◌then◌else◌}
use Rattle.std.specs.Option.{option_map_or}
use Rattle.std.specs.Str.{bytes_eq}
use Rattle.indexmap.specs.IndexMap.{get_by}
use Rattle.derivation_limits.specs.declared.totals.Totals.{Totals}

-- the total of a name in a table, 0 where it is not there
unfoldable pub total_of : Totals → List ℕ → ℕ
total_of table name = option_map_or (λ total. total) (get_by (λ key. bytes_eq name key.items) table.totals) 0

-- up to the greatest value
abbrev pub capped : ℕ → ℕ
capped n = min n (2 ^ 64 - 1)

-- the second table is the first with this amount more at this name
abbrev pub Adds : Totals → List ℕ → ℕ → Totals → Type 0
Adds old name amount new = (other : List ℕ) → total_of new other ≡ (if bytes_eq name other then capped (total_of old other + amount) else total_of old other)

-- the table has no names
abbrev pub IsEmpty : Totals → Type 0
IsEmpty table = (name : List ℕ) → total_of table name ≡ 0

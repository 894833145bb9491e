-- The names that have a spelling between single quotes (TPTP BNF, <single_quoted>): with a backslash before a quote or
-- a backslash, any printable bytes, and at least one.
use Rattle.std.specs.Prelude.{ℕ, ◌<◌, ◌&&◌, nat_le, Bool, List, length}
use Rattle.std.specs.List.{AllPass, AllByRecursion}

-- a byte that a quoted word can hold: a printable one
abbrev pub is_printable : ℕ → Bool
is_printable byte = nat_le 32 byte && nat_le byte 126

-- the name has a spelling as a single-quoted word
pub record IsQuotable (name : List ℕ) : Type 0 where
  pub some : 0 < length name
  pub printable : AllPass is_printable name

-- each of the names has one
abbrev pub AreQuotable : List (List ℕ) → Type 0
AreQuotable names = AllByRecursion IsQuotable names

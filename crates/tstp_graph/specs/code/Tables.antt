-- What private contracts say, beside the definitions of specs/Tables.
use Rattle.std.specs.Prelude.{ℕ, ◌≡◌, List, [], ◌∷◌, ◌++◌, length, if◌then◌else◌}
use Rattle.std.specs.Option.{option_map_or}
use Rattle.std.specs.Str.{bytes_eq}
use Rattle.indexmap.specs.IndexMap.{get_by}
use Rattle.tptp_base.specs.declared.name.Name.{Name}
use Rattle.tptp_base.specs.declared.name.Name.TheVariants.{Word, Integer}
use Rattle.tstp_graph.specs.declared.names.TextTable.{TextTable}
use Rattle.tstp_graph.specs.declared.names.NameTable.{NameTable}
use Rattle.tstp_graph.specs.Tables.{same_name, places_from, places}

-- the places of a text in a table
unfoldable pub found_text : TextTable → List ℕ → List ℕ
found_text table text = option_map_or (λ places. places) (get_by (λ key. bytes_eq text key.items) table.places) []

-- the places of a name in a table
abbrev pub found : NameTable → Name → List ℕ
found table (Word text) = found_text table.words text
found table (Integer text) = found_text table.integers text

-- the second table is the first with these places of this text
abbrev pub Puts : TextTable → List ℕ → List ℕ → TextTable → Type 0
Puts old text places new = (other : List ℕ) → found_text new other ≡ (if bytes_eq text other then places else found_text old other)

-- the second table is the first with one more place of this text
abbrev pub AddsText : TextTable → List ℕ → ℕ → TextTable → Type 0
AddsText old text place new = (other : List ℕ) → found_text new other ≡ (if bytes_eq text other then found_text old other ++ place ∷ [] else found_text old other)

-- the second table is the first with one more place of this name
abbrev pub Adds : NameTable → Name → ℕ → NameTable → Type 0
Adds old name place new = (other : Name) → found new other ≡ (if same_name name other then found old other ++ place ∷ [] else found old other)

-- the table has the places of each name among these, and no other names
pub record Holds (table : NameTable) (names : List Name) : Type 0 where
  pub places : (name : Name) → found table name ≡ places_from 0 names name
  pub count : table.count ≡ length names

-- the second table has the names of the first, and then these
abbrev pub IsAdded : NameTable → List Name → NameTable → Type 0
IsAdded old more new = (names : List Name) → Holds old names → Holds new (names ++ more)

-- the table has no places
abbrev pub IsEmpty : TextTable → Type 0
IsEmpty table = (text : List ℕ) → found_text table text ≡ []

-- Adding to lists what may not be there.
use Rattle.std.specs.Prelude.{ℕ, ◌≡◌, zero, suc, Bool, true, false, List, [], ◌∷◌, ◌++◌, map, length, Option, Some, None, Result, Ok, Err, slice_get, if◌then◌else◌}
use Rattle.std.specs.Option.{option_map}
use Rattle.std.specs.Cmp.Lexicographic.{pointwise}
use Rattle.std.specs.Prelude.{nat_eq, ◌<◌, All}
use Rattle.tptp_base.specs.declared.place.Place.{Place}
use Rattle.fof_terms.specs.Vocabulary.{Vocabulary}
use Rattle.fof_terms.specs.declared.signature.Symbol.{Symbol}
use Rattle.fi_model.specs.declared.fault.ModelFault.{ModelFault}
use Rattle.fi_model.specs.declared.rows.Row.{Row}
use Rattle.fi_model.specs.declared.sentence.Sentence.{Sentence}
use Rattle.fi_model.specs.declared.table.Table.{Table}
use Rattle.fi_model.specs.Faults.{IsAt}
use Rattle.fi_model.specs.Interpretations.{size}
use Rattle.fi_model.specs.Models.{both}
use Rattle.fi_model.specs.Sentences.{Text}
use Rattle.fi_model.specs.declared.fault.ModelFault.TheVariants as fault

-- what is there is added, and the answer says whether it is
abbrev pub Adds : {X : Type 0} → Option (List X) → List X → Bool → List X → Type 0
Adds (Some xs) old true new = new ≡ old ++ xs
Adds (Some xs) old false new = ⊥
Adds None old true new = ⊥
Adds None old false new = Unit {0}

-- the sentence of an item is added, if it has one
abbrev pub AddsSentence : Result (Option Sentence) Place → List Sentence → List Sentence → Type 0
AddsSentence (Ok None) old new = new ≡ old
AddsSentence (Ok (Some s)) old new = new ≡ old ++ s ∷ []
AddsSentence (Err place) old new = ⊥

-- the fault is that of the sentence of that number, if memory was not wanting
abbrev pub IsElementAt : List Sentence → ℕ → ModelFault → Type 0
IsElementAt said at (fault.Element place name) = IsAt said at place name
IsElementAt said at fault.Memory = Unit {0}
IsElementAt said at _ = ⊥

-- the fault is that of this sentence, if memory was not wanting
abbrev pub IsElementOf : Sentence → ModelFault → Type 0
IsElementOf s (fault.Element place name) = (place ≡ s.place) × (name ≡ s.name)
IsElementOf s fault.Memory = Unit {0}
IsElementOf s _ = ⊥

abbrev pub IsDoubleOf : Sentence → ModelFault → Type 0
IsDoubleOf s (fault.Double place name) = (place ≡ s.place) × (name ≡ s.name)
IsDoubleOf s fault.Memory = Unit {0}
IsDoubleOf s _ = ⊥

abbrev pub IsElement : List Sentence → Result (List Row) ℕ → ModelFault → Type 0
IsElement said (Ok found) f = f ≡ fault.Memory
IsElement said (Err at) f = IsElementAt said at f

abbrev pub IsDoubleAt : List Sentence → Option ℕ → ModelFault → Type 0
IsDoubleAt said at (fault.Double place name) = (number : ℕ) × (at ≡ Some number) × IsAt said number place name
IsDoubleAt said at fault.Memory = Unit {0}
IsDoubleAt said at _ = ⊥

-- ---- rows by symbol and elements

-- the number of the row's symbol and its elements
abbrev pub key_of : Row → List ℕ
key_of r = r.symbol ∷ r.args

abbrev pub entry_of : Row → List ℕ × ℕ
entry_of r = (key_of r, r.value)

-- the entry is under the key
abbrev pub under : List ℕ → List ℕ × ℕ → Bool
under key e = pointwise nat_eq key e.0

-- the value under the key
abbrev pub told : List (List ℕ × ℕ) → List ℕ → Option ℕ
told [] key = None
told (e ∷ es) key = if under key e then Some e.1 else told es key

-- each row is of one of the sentences
abbrev pub AreOf : List Row → List Sentence → Type 0
AreOf found said = All (λ (r : Row). r.at < length said) found

-- ---- the values of a symbol, row by row

abbrev pub joined_below : ℕ → (ℕ → Option (List ℕ)) → Option (List ℕ)
joined_below zero f = Some []
joined_below (suc n) f = both (λ xs ys. xs ++ ys) (joined_below n f) (f n)

-- what is told at each list of elements behind the key, with so many elements at each place; none where one lacks
abbrev pub listed : (List ℕ → Option ℕ) → List ℕ → List ℕ → Option (List ℕ)
listed f [] key = option_map (λ x. x ∷ []) (f key)
listed f (n ∷ sizes) key = joined_below n (λ x. listed f sizes (key ++ x ∷ []))

-- the table is that of the symbol
pub record IsTable (f : List ℕ → Option ℕ) (elements : List (List Text)) (symbol : ℕ) (s : Symbol) (t : Table) : Type 0 where
  pub sizes : t.sizes ≡ map (size elements) s.args
  pub values : listed f t.sizes (symbol ∷ []) ≡ Some t.values

-- the table of the symbol, or none where it lacks a value
abbrev pub IsTableOr : (List ℕ → Option ℕ) → List (List Text) → ℕ → Symbol → Option Table → Type 0
IsTableOr f elements symbol s (Some t) = IsTable f elements symbol s t
IsTableOr f elements symbol s None = listed f (map (size elements) s.args) (symbol ∷ []) ≡ None

abbrev pub IsNoValue : Symbol → ModelFault → Type 0
IsNoValue s (fault.Missing name) = name ≡ s.name
IsNoValue s fault.Memory = Unit {0}
IsNoValue s _ = ⊥

-- the tables are those of the first symbols
pub record AreTables (v : Vocabulary) (f : List ℕ → Option ℕ) (elements : List (List Text)) (tables : List Table) : Type 0 where
  pub each : (symbol : ℕ) (t : Table) → slice_get tables symbol ≡ Some t → (s : Symbol) × (slice_get v.symbols symbol ≡ Some s) × IsTable f elements symbol s t

-- the symbol is the first that lacks a value, if memory was not wanting
pub record IsFirstUntold (v : Vocabulary) (f : List ℕ → Option ℕ) (elements : List (List Text)) (name : Text) : Type 0 where
  pub tables : List Table
  pub are : AreTables v f elements tables
  pub s : Symbol
  pub is : slice_get v.symbols (length tables) ≡ Some s
  pub is_name : name ≡ s.name
  pub lacks : listed f (map (size elements) s.args) (length tables ∷ []) ≡ None

abbrev pub IsMissing : Vocabulary → (List ℕ → Option ℕ) → List (List Text) → ModelFault → Type 0
IsMissing v f elements (fault.Missing name) = IsFirstUntold v f elements name
IsMissing v f elements fault.Memory = Unit {0}
IsMissing v f elements _ = ⊥

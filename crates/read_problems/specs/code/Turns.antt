-- What is known of items that were taken one behind the other.
use Rattle.std.specs.Prelude.{◌≡◌, ◌⊎◌, ℕ, Bool, List, [], ◌∷◌, length, count_by, Ok, Err}
use Rattle.tptp_base.specs.declared.item.Item.{Item}
use Rattle.sort_check.specs.declared.fault.SortFault.{SortFault}
use Rattle.sort_check.specs.declared.line.Line.{Line}
use Rattle.sort_check.specs.Texts.{denoted}
use Rattle.sort_check.specs.Turns.{kept, HaveNoInclude}
use Rattle.tstp_graph.specs.Lines.{is_formula}
use Rattle.read_problems.specs.declared.denotations.Denotation.{Denotation}
use Rattle.read_problems.specs.Denoted.{first_vocabulary, SaysSortFault}
use Rattle.read_problems.specs.Ending.{Ending}
use Rattle.read_problems.specs.Spelled.{SpellsItems, IsTextRefusal}
use Rattle.sort_check.specs.declared.line.TextKind.TheVariants as kind

-- The items denote these lines, kept or not. So many of them are formulas, and so many bytes were read.
pub record IsOfItems (items : List Item) (keeps : Bool) (size : ℕ) (d : Denotation) : Type 0 where
  pub lines : List Line
  pub denotes : denoted items first_vocabulary kind.Problem ≡ Ok (lines, d.signature)
  pub kept_lines : d.lines ≡ kept keeps lines
  pub formulas : d.formulas ≡ count_by is_formula items
  pub read : d.read ≡ size

-- The first fault of the items against the rules of sorts is said.
abbrev pub IsSortRefusal : List (List ℕ) → List Item → Ending → Type 0
IsSortRefusal files items ending = (fault : SortFault) × (denoted items first_vocabulary kind.Problem ≡ Err fault) × SaysSortFault files fault ending

-- The text has no include and denotes these lines, kept or not.
pub record IsOfText (text : List ℕ) (keeps : Bool) (d : Denotation) : Type 0 where
  pub items : List Item
  pub spells : SpellsItems text items
  pub whole : HaveNoInclude items
  pub is : IsOfItems items keeps (length text) d

-- The text has no include, and its first fault against the rules of sorts is said.
pub record IsTextSortRefusal (file text : List ℕ) (ending : Ending) : Type 0 where
  pub items : List Item
  pub spells : SpellsItems text items
  pub whole : HaveNoInclude items
  pub says : IsSortRefusal (file ∷ []) items ending

-- The first fault of the text is said: that of its tokens or items, or else that against the rules of sorts.
abbrev pub IsRefusalOfText : List ℕ → List ℕ → Ending → Type 0
IsRefusalOfText file text ending = IsTextRefusal file text ending ⊎ IsTextSortRefusal file text ending

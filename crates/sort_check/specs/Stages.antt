-- Where the items of a problem stand that were taken one behind the other: what they give so far, or their first fault.
use Rattle.std.specs.Prelude.{◌≡◌, ℕ, false, List, [], length, Option, Some, None, Ok, Err}
use Rattle.tptp_base.specs.declared.item.Item.{Item}
use Rattle.fof_terms.specs.Vocabulary.{Vocabulary, IsVocabulary}
use Rattle.sort_check.specs.declared.fault.SortFault.{SortFault}
use Rattle.sort_check.specs.declared.line.Line.{Line}
use Rattle.sort_check.specs.declared.line.TextKind.TheVariants.{Problem}
use Rattle.sort_check.specs.declared.namesakes.Namesakes.{Namesakes}
use Rattle.sort_check.specs.declared.progress.Progress.{Progress}
use Rattle.sort_check.specs.declared.progress.Stage.{Stage}
use Rattle.sort_check.specs.declared.progress.Stage.TheVariants as stage
use Rattle.sort_check.specs.declared.progress.Turn.{Turn}
use Rattle.sort_check.specs.declared.progress.Turn.TheVariants as turn
use Rattle.sort_check.specs.Namesakes.{Knows}
use Rattle.sort_check.specs.Sorting.{Extends}
use Rattle.sort_check.specs.Symbols.{Text}
use Rattle.sort_check.specs.Texts.{Declared, Reading, type_lines, lines_from}
use Rattle.sort_check.specs.Turns.{first, kept, HaveNoInclude}

-- what is declared before the first item
abbrev pub begin : Declared
begin = record { vocabulary = first; names = [] }

-- a vocabulary as it stands behind the type lines: no conjecture has come
abbrev pub behind_types : Vocabulary → Reading
behind_types v = record { vocabulary = v; conjectured = false }

-- no line comes of the items
abbrev pub GiveNoLine : List Item → Type 0
GiveNoLine items = (names : List Text) (number : ℕ) (s : Reading) → lines_from Problem names number items s ≡ Ok ([], s)

-- The type lines of the items declare this.
pub record AreTyped (items : List Item) (p : Progress) (namesakes : Namesakes) : Type 0 where
  pub types : type_lines items begin ≡ Ok (tt, record { vocabulary = p.signature; names = p.names })
  pub knows : Knows namesakes p.signature.symbols
  pub whole : HaveNoInclude items

-- A type line has the first fault.
pub record AreMistyped (items : List Item) (fault : SortFault) : Type 0 where
  pub types : type_lines items begin ≡ Err fault
  pub whole : HaveNoInclude items

-- Type lines alone have come.
pub record AreTypes (items : List Item) (p : Progress) (namesakes : Namesakes) : Type 0 where
  pub typed : AreTyped items p namesakes
  pub no_line : GiveNoLine items
  pub lines : p.lines ≡ []
  pub conjectured : p.conjectured ≡ false
  pub counted : p.number ≡ length items

-- The type lines of the items declare this vocabulary, and the signature has that in front. Perhaps more stands behind,
-- which formulas brought.
pub record AreBehind (items : List Item) (p : Progress) : Type 0 where
  pub typed : Vocabulary
  pub types : type_lines items begin ≡ Ok (tt, record { vocabulary = typed; names = p.names })
  pub vocabulary : IsVocabulary typed
  pub more : Extends typed p.signature
  pub sorts : p.typed.sorts ≡ length typed.sorts
  pub symbols : p.typed.symbols ≡ length typed.symbols
  pub whole : HaveNoInclude items

-- The formulas of the items were read behind this vocabulary.
pub record AreRead (typed : Vocabulary) (items : List Item) (p : Progress) : Type 0 where
  pub found : List Line
  pub reads : lines_from Problem p.names 0 items (behind_types typed) ≡ Ok (found, record { vocabulary = p.signature; conjectured = p.conjectured })
  pub lines : p.lines ≡ kept p.keeps found
  pub counted : p.number ≡ length items

-- They were, or have this first fault.
abbrev pub IsRead : Vocabulary → List Item → Progress → Option SortFault → Type 0
IsRead typed items p None = AreRead typed items p
IsRead typed items p (Some fault) = lines_from Problem p.names 0 items (behind_types typed) ≡ Err fault

-- Formulas have come behind the type lines, and have no fault or this first one.
pub record AreLines (items : List Item) (p : Progress) (fault : Option SortFault) : Type 0 where
  pub behind : AreBehind items p
  pub read : IsRead behind.typed items p fault

-- What is known of the items at a stage; at the last one nothing is.
abbrev pub StandsAt : List Item → Progress → Stage → Type 0
StandsAt items p (stage.Types namesakes) = AreTypes items p namesakes
StandsAt items p stage.Lines = AreLines items p None
StandsAt items p (stage.Mistyped fault) = AreMistyped items fault
StandsAt items p (stage.Faulty fault) = AreLines items p (Some fault)
StandsAt items p (stage.Late namesakes) = AreTyped items p namesakes
StandsAt items p stage.Unknown = Unit {0}

-- ---- items that are taken again

-- The type lines of the whole declare a vocabulary, and behind it the formulas of the items were read, or have this
-- first fault.
pub record AreReadAgain (whole items : List Item) (p : Progress) (fault : Option SortFault) : Type 0 where
  pub typed : Vocabulary
  pub types : type_lines whole begin ≡ Ok (tt, record { vocabulary = typed; names = p.names })
  pub read : IsRead typed items p fault

abbrev pub StandsAgainAt : List Item → List Item → Progress → Turn → Type 0
StandsAgainAt whole items p turn.Lines = AreReadAgain whole items p None
StandsAgainAt whole items p (turn.Faulty fault) = AreReadAgain whole items p (Some fault)
StandsAgainAt whole items p turn.Unknown = Unit {0}

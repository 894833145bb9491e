-- What a text denotes is closed and well-sorted in the signature that stands behind it, which goes on from the one
-- before it (TPTP technical manual, types: what is declared stays declared).
use Rattle.std.specs.Prelude.{◌≡◌, ◌<◌, List, [], ◌++◌, length}
use Rattle.std.specs.List.{All, AllByRecursion}
use Rattle.fof_terms.specs.Vocabulary.{Vocabulary, IsDeclared}
use Rattle.fof_terms.specs.Sorts.{SortedTo}
use Rattle.fof_terms.specs.SortLaws.{Grows}
use Rattle.fof_terms.specs.declared.form.Form.{Form}
use Rattle.sort_check.specs.declared.line.Line.{Line}
use Rattle.sort_check.specs.declared.line.GivenEntry.{GivenEntry}

-- The formula is closed and well-sorted, and at most 500 quantifiers stand inside each other: 250 for the variables of
-- a clause, and 250 that are written.
abbrev pub IsSentence : Vocabulary → Form → Type 0
IsSentence v a = SortedTo 500 v [] a

-- the formula of each line is so
abbrev pub AreSorted : Vocabulary → List Line → Type 0
AreSorted v lines = All (λ (line : Line). IsSentence v line.form) lines

-- that of each entry is so
abbrev pub AreGivenSorted : Vocabulary → List GivenEntry → Type 0
AreGivenSorted v entries = All (λ (entry : GivenEntry). IsSentence v entry.form) entries

-- the second list begins with the first
abbrev pub GoesOn : {X : Type 0} → List X → List X → Type 0
GoesOn {X} front whole = (more : List X) × (whole ≡ front ++ more)

-- the sorts of each symbol are there
abbrev pub AreDeclared : Vocabulary → Type 0
AreDeclared v = AllByRecursion (IsDeclared (length v.sorts)) v.symbols

-- The second vocabulary has the sorts and the symbols of the first, each at its number, and then perhaps more.
pub record Extends (v w : Vocabulary) : Type 0 where
  pub grows : Grows v w
  pub sorts : GoesOn v.sorts w.sorts
  pub symbols : GoesOn v.symbols w.symbols
  pub declared : 0 < length v.sorts → AreDeclared v → AreDeclared w

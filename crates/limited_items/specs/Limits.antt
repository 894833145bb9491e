-- The limits on a derivation: how many formulas it has, how many variables each binds and how deeply it nests, and how
-- many symbols there are with those that a search for a line may bring in.
use Rattle.std.specs.Prelude.{ℕ, ◌≡◌, ◌+◌, ◌<◌, ◌≤◌, ⊤, List, Some, length, slice_get}
use Rattle.tptp_base.specs.declared.limit.LimitName.{LimitName}
use Rattle.tptp_base.specs.declared.limit.LimitName.TheVariants.{FileSize, TotalSize, IncludeDepth, Nesting, Variables, Lines, Symbols, Sorts}
use Rattle.tptp_base.specs.declared.item.Item.{Item}
use Rattle.tptp_base.specs.declared.surface.Surface.{Surface}
use Rattle.fof_terms.specs.Vocabulary.{Vocabulary}
use Rattle.sort_check.specs.declared.line.GivenEntry.{GivenEntry}
use Rattle.prove_out.specs.Denoting.{bound_count}
use Rattle.derivation_items.specs.Typings.{typings_of}
use Rattle.derivation_items.specs.Words.{Text}
use Rattle.derivation_items.specs.declared.line.ProofLine.{ProofLine}
use Rattle.derivation_limits.specs.Nesting.{nesting_of}
use Rattle.limited_items.specs.declared.fault.ProveFault.{ProveFault}
use Rattle.limited_items.specs.declared.fault.ProveFault.TheVariants.{Limit, Memory}
use Rattle.limited_items.specs.Printed.{ArePrinted, Writes}
use Rattle.limited_items.specs.Room.{HaveRoom}

-- how many formulas the derivation has, type lines included
abbrev pub formula_count : Vocabulary → ℕ → List ProofLine → ℕ
formula_count v first lines = length (typings_of v first) + length lines

-- the line binds too many variables, or what is written for it nests too deeply
abbrev pub IsLineOver : Vocabulary → ProofLine → LimitName → Type 0
IsLineOver v line Variables = 250 < bound_count line.form
IsLineOver v line Nesting = (formula : Surface) × Writes v line.form formula × (250 < nesting_of formula)
IsLineOver v line Lines = ⊥
IsLineOver v line Symbols = ⊥
IsLineOver v line FileSize = ⊥
IsLineOver v line TotalSize = ⊥
IsLineOver v line IncludeDepth = ⊥
IsLineOver v line Sorts = ⊥

-- some line is
abbrev pub IsSomeOver : Vocabulary → List ProofLine → LimitName → Type 0
IsSomeOver v lines name = (k : ℕ) × (line : ProofLine) × (slice_get lines k ≡ Some line) × IsLineOver v line name

-- the derivation is over the limit of that name
abbrev pub IsOver : Vocabulary → ℕ → List GivenEntry → List ProofLine → LimitName → Type 0
IsOver v first given lines Lines = 1048576 < formula_count v first lines
IsOver v first given lines Variables = IsSomeOver v lines Variables
IsOver v first given lines Nesting = IsSomeOver v lines Nesting
IsOver v first given lines Symbols = HaveRoom (length v.symbols) given lines → ⊥
IsOver v first given lines FileSize = ⊥
IsOver v first given lines TotalSize = ⊥
IsOver v first given lines IncludeDepth = ⊥
IsOver v first given lines Sorts = ⊥

-- a fault that is a limit is one that is passed; want of memory needs no cause
abbrev pub IfLimit : (LimitName → Type 0) → ProveFault → Type 0
IfLimit Passed (Limit name) = Passed name
IfLimit Passed Memory = ⊤

-- the items are those of the derivation, which is within the limits
pub record AreWithin (file : Text) (v : Vocabulary) (first : ℕ) (given : List GivenEntry) (lines : List ProofLine) (items : List Item) : Type 0 where
  pub few : formula_count v first lines ≤ 1048576
  pub printed : ArePrinted file v first lines items
  pub room : HaveRoom (length v.symbols) given lines

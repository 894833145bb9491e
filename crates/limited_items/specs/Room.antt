-- Room at each line of a derivation for the symbols that a search for the line may bring in.
use Rattle.std.specs.Prelude.{ℕ, ◌≡◌, List, Some, slice_get, take}
use Rattle.sort_check.specs.declared.line.GivenEntry.{GivenEntry}
use Rattle.step_clauses.specs.Room.{HasRoom}
use Rattle.derivation_items.specs.declared.line.ProofLine.{ProofLine}
use Rattle.limited_items.specs.Sources.{source_forms}

-- beside so many symbols there is room for the line behind those lines, by the formulas from which it is to follow
abbrev pub HasRoomBehind : ℕ → List GivenEntry → List ProofLine → ProofLine → Type 0
HasRoomBehind symbols given earlier line = HasRoom symbols (source_forms given earlier line.source) line.form

-- the same of each line
abbrev pub HaveRoom : ℕ → List GivenEntry → List ProofLine → Type 0
HaveRoom symbols given lines = (k : ℕ) (line : ProofLine) → slice_get lines k ≡ Some line → HasRoomBehind symbols given (take k lines) line

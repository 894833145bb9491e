-- Which clauses a log names.
use Rattle.std.specs.Prelude.{ℕ, ◌≡◌, ◌<◌, Bool, true, List, length, Some, slice_get}
use Rattle.std.specs.List.{Contains}
use Rattle.sat_step.specs.declared.decision.Learned.{Learned}

-- a clause of the log names the clause of this number
abbrev pub IsNamed : List Learned → ℕ → Type 0
IsNamed log k = (e : Learned) × Contains log e × Contains e.from k

-- the place is marked
abbrev pub IsMarked : List Bool → ℕ → Type 0
IsMarked marks k = slice_get marks k ≡ Some true

-- the places of these numbers are marked, as far as there are places, and those that were
pub record MarksNamed (numbers : List ℕ) (old new : List Bool) : Type 0 where
  pub count : length new ≡ length old
  pub kept : (k : ℕ) → IsMarked old k → IsMarked new k
  pub named : (k : ℕ) → Contains numbers k → k < length old → IsMarked new k

-- so many marks, and the clauses that the log names are marked
pub record AreMarked (count : ℕ) (log : List Learned) (marks : List Bool) : Type 0 where
  pub size : length marks ≡ count
  pub named : (k : ℕ) → IsNamed log k → k < count → IsMarked marks k

-- What is kept of a log.
use Rattle.std.specs.Prelude.{◌≡◌, ◌<◌, ◌≤◌, ◌+◌, ◌-◌, ◌⊎◌, ◌++◌, ◌∷◌, [], ℕ, List, Option, Some, None, length, slice_get}
use Rattle.std.specs.List.{AllZip}
use Rattle.clause_learning.specs.declared.clauses.Learned.{Learned}
use Rattle.clause_learning.specs.declared.trimming.Trimmed.{Trimmed}

-- the clause of the first number has the second one now: it is given, or it is learned and kept
abbrev pub IsNumber : ℕ → List (Option ℕ) → ℕ → ℕ → Type 0
IsNumber given numbers k n = ((k < given) × (n ≡ k)) ⊎ ((given ≤ k) × (slice_get numbers (k - given) ≡ Some (Some n)))

-- the same of each number
abbrev pub IsRenumbered : ℕ → List (Option ℕ) → List ℕ → List ℕ → Type 0
IsRenumbered given numbers from renumbered = AllZip (IsNumber given numbers) from renumbered

-- the clause is kept
pub record KeepsOne (given : ℕ) (old : Trimmed) (l : Learned) (new : Trimmed) : Type 0 where
  pub from : List ℕ
  pub renumbered : IsRenumbered given old.numbers l.from from
  pub log : new.log ≡ old.log ++ record { lits = l.lits; from = from } ∷ []
  pub numbers : new.numbers ≡ old.numbers ++ Some (given + length old.log) ∷ []

-- a clause is not kept
pub record SkipsOne (old new : Trimmed) : Type 0 where
  pub log : new.log ≡ old.log
  pub numbers : new.numbers ≡ old.numbers ++ None ∷ []

-- the clause is kept, or it is not
abbrev pub GoesOn : ℕ → Trimmed → Learned → Trimmed → Type 0
GoesOn given old l new = KeepsOne given old l new ⊎ SkipsOne old new

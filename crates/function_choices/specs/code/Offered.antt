-- New symbols of a line, one by one.
use Rattle.std.specs.Prelude.{ℕ, ◌≡◌, ◌++◌, ◌∷◌, ◌<◌, ◌⊎◌, true, List, [], length}
use Rattle.fof_terms.specs.Standing.{is_listed}
use Rattle.kernel.specs.Statements.{Statements}
use Rattle.kernel.specs.Entries.{IsFresh}

-- the symbol is added, which is new; or it need not be
abbrev pub IsAdded : Statements → ℕ → List ℕ → List ℕ → Type 0
IsAdded t f old new = ((new ≡ old ++ f ∷ []) × (length old < 100) × IsFresh f t) ⊎ ((new ≡ old) × (length old < 100 → IsFresh f t → is_listed old f ≡ true))

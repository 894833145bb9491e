-- Lemmas on what specs/Nesting defines.
use Rattle.std.specs.Prelude.{ℕ, ◌≤◌, ◌<◌, List, [], ◌∷◌}
use Rattle.first_fault.specs.Nesting.{Nested}

-- the tokens before the rest are within the limit
pub data WithinTo {T : Type 0} (limit : ℕ) : List (Nested T) → List (Nested T) → Type 0 where
  done : {rest : List (Nested T)} → WithinTo limit rest rest
  before : {t : T} {n : ℕ} {ts rest : List (Nested T)} → n ≤ limit → WithinTo limit ts rest → WithinTo limit ((t, n) ∷ ts) rest

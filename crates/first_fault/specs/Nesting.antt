-- Tokens with their nesting, and where they pass a limit.
use Rattle.std.specs.Prelude.{ℕ, ◌≤◌, ◌<◌, List, [], ◌∷◌}

-- a token, and how deep it is nested
abbrev pub Nested : Type 0 → Type 0
Nested T = T × ℕ

-- the tokens alone
abbrev pub plain : {T : Type 0} → List (Nested T) → List T
plain [] = []
plain (a ∷ rest) = a.0 ∷ plain rest

-- no token is nested deeper than the limit
abbrev pub Within : {T : Type 0} → ℕ → List (Nested T) → Type 0
Within limit [] = Unit {0}
Within limit (a ∷ rest) = (a.1 ≤ limit) × Within limit rest

-- the first token over the limit, with what follows it
pub data FirstOver {T : Type 0} (limit : ℕ) : List (Nested T) → List (Nested T) → Type 0 where
  here : {t : T} {n : ℕ} {ts : List (Nested T)} → limit < n → FirstOver limit ((t, n) ∷ ts) ((t, n) ∷ ts)
  behind : {t : T} {n : ℕ} {ts over : List (Nested T)} → n ≤ limit → FirstOver limit ts over → FirstOver limit ((t, n) ∷ ts) over

-- Rules of a grammar: what relates a value to the tokens that spell it.
use Rattle.std.specs.Prelude.{ℕ, List, [], ◌∷◌}
use Rattle.first_fault.specs.Nesting.{Nested}

-- A value, the tokens from its first one on, and the tokens after it. Beside each token stands its nesting.
abbrev pub Rule : Type 0 → Type 0 → Type 1
Rule T A = A → List (Nested T) → List (Nested T) → Type 0

-- one or more, with the token between them
pub data Listed {T A : Type 0} (token : T) (level : ℕ) (P : Rule T A) : List A → List (Nested T) → List (Nested T) → Type 0 where
  last : {x : A} {ts rest : List (Nested T)} → P x ts rest → Listed token level P (x ∷ []) ts rest
  more : {x : A} {xs : List A} {ts mid rest : List (Nested T)} → P x ts ((token, level) ∷ mid) → Listed token level P xs mid rest → Listed token level P (x ∷ xs) ts rest

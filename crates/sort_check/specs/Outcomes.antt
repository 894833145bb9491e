-- What comes of a part of a text: a value and the state behind it, or the first fault. Parts are put together from left
-- to right, and the first fault is that of the whole.
use Rattle.std.specs.Prelude.{ℕ, ◌+◌, List, [], ◌∷◌, Result, Ok, Err}

-- a value of A and the state behind it, or a fault of E
abbrev pub Outcome : Type 0 → Type 0 → Type 0 → Type 0
Outcome E S A = Result (A × S) E

abbrev pub and_then : {E S R A B : Type 0} → Outcome E S A → (A → S → Outcome E R B) → Outcome E R B
and_then (Ok p) f = f p.0 p.1
and_then (Err e) f = Err e

abbrev pub mapped : {E S A B : Type 0} → (A → B) → Outcome E S A → Outcome E S B
mapped f (Ok p) = Ok (f p.0, p.1)
mapped f (Err e) = Err e

-- each member in turn, with its number
abbrev pub each : {E S X A : Type 0} → (ℕ → X → S → Outcome E S A) → ℕ → List X → S → Outcome E S (List A)
each p i [] s = Ok ([], s)
each p i (x ∷ xs) s = and_then (p i x s) (λ y t. mapped (λ ys. y ∷ ys) (each p (i + 1) xs t))

-- Readers of tokens, and how they are put together.
use Rattle.std.specs.Prelude.{ℕ, zero, suc, ◌-◌, Bool, false, if◌then◌else◌, List, [], ◌∷◌, length, Option, Some, None}
use Rattle.std.specs.Prelude.{Result, Ok, Err}

-- why a reader stops
pub data Cause : Type 0 where
  Unexpected : Cause
  TooDeep : Cause

-- a value with the tokens after it, or why it stops, with the tokens from there on
abbrev pub Outcome : Type 0 → Type 0 → Type 0
Outcome T A = Result (A × List T) (Cause × List T)

abbrev pub Reader : Type 0 → Type 0 → Type 0
Reader T A = List T → Outcome T A

-- no text goes on with the next token
abbrev pub refuse : {T A : Type 0} → Reader T A
refuse ts = Err (Unexpected, ts)

abbrev pub and_then : {T A B : Type 0} → Outcome T A → (A → Reader T B) → Outcome T B
and_then (Ok p) f = f p.0 p.1
and_then (Err e) f = Err e

abbrev pub mapped : {T A B : Type 0} → (A → B) → Outcome T A → Outcome T B
mapped f (Ok p) = Ok (f p.0, p.1)
mapped f (Err e) = Err e

abbrev pub next : {T : Type 0} → List T → Option T
next [] = None
next (t ∷ ts) = Some t

abbrev pub tail : {T : Type 0} → List T → List T
tail [] = []
tail (t ∷ ts) = ts

-- the next token is of the kind
abbrev pub sees : {T : Type 0} → (T → Bool) → List T → Bool
sees is [] = false
sees is (t ∷ ts) = is t

-- behind the next token where it is of the kind
abbrev pub after_seen : {T : Type 0} → (T → Bool) → List T → List T
after_seen is ts = if sees is ts then tail ts else ts

-- a token of a kind
abbrev pub expect : {T : Type 0} → (T → Bool) → Reader T (Unit {0})
expect is [] = Err (Unexpected, [])
expect is (t ∷ ts) = if is t then Ok (tt, ts) else Err (Unexpected, t ∷ ts)

-- what is read, and then a token of a kind
abbrev pub closed : {T A : Type 0} → (T → Bool) → Reader T A → Reader T A
closed is p ts = and_then (p ts) (λ x rest. mapped (λ _. x) (expect is rest))

-- a token of a kind, and then what is read
abbrev pub opened : {T A : Type 0} → (T → Bool) → Reader T A → Reader T A
opened is p ts = and_then (expect is ts) (λ _ rest. p rest)

-- ---- one or more, with a separator between them

abbrev pub go_on : {T A : Type 0} → (T → Bool) → (ℕ → Outcome T (List A)) → ℕ → A → Reader T (List A)
go_on is again count x [] = Ok (x ∷ [], [])
go_on is again count x (t ∷ rest) = if is t then mapped (λ xs. x ∷ xs) (again (count - length rest)) else Ok (x ∷ [], t ∷ rest)

-- The number counts the tokens that are left of what was read.
abbrev pub separated_from : {T A : Type 0} → (T → Bool) → Reader T A → ℕ → Reader T (List A)
separated_from is p left [] = mapped (λ x. x ∷ []) (p [])
separated_from is p (suc left) (t ∷ ts) = separated_from is p left ts
separated_from is p zero (t ∷ ts) = and_then (p (t ∷ ts)) (go_on is (λ left. separated_from is p left ts) (length ts))

unfoldable pub separated : {T A : Type 0} → (T → Bool) → Reader T A → Reader T (List A)
separated is p = separated_from is p zero

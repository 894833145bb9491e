-- Places in lists that are joined.
use Rattle.std.specs.Prelude.{ℕ, ◌≡◌, ◌+◌, ◌<◌, ◌⊎◌, List, [], ◌∷◌, ◌++◌, length, Some, slice_get, refl}
use Rattle.std.proofs.Common.{ap, ◌∙◌, arith, zero, suc, inl, inr}

pub place_after : {X : Type 0} (xs ys : List X) (k : ℕ) → slice_get (xs ++ ys) (k + length xs) ≡ slice_get ys k
place_after [] ys k = ap (slice_get ys) (omega arith)
place_after (y ∷ xs) ys k = ap (slice_get (y ∷ (xs ++ ys))) (step k (length xs)) ∙ place_after xs ys k where
  step : (k n : ℕ) → k + suc n ≡ suc (k + n)
  step k n = omega arith

pub place_within : {X : Type 0} (xs ys : List X) (k : ℕ) (x : X) → k < length xs → slice_get (xs ++ ys) k ≡ Some x → slice_get xs k ≡ Some x
place_within [] ys k x h e = absurd (omega arith)
place_within (y ∷ xs) ys zero x h e = e
place_within (y ∷ xs) ys (suc k) x h e = place_within xs ys k x (omega arith) e

-- with one more at the end
pub last_place : {X : Type 0} (xs : List X) (y : X) → slice_get (xs ++ y ∷ []) (length xs) ≡ Some y
last_place [] y = refl
last_place (x ∷ xs) y = last_place xs y

pub place_or_last : {X : Type 0} (xs : List X) (y : X) (k : ℕ) (x : X) → slice_get (xs ++ y ∷ []) k ≡ Some x → (slice_get xs k ≡ Some x) ⊎ ((k ≡ length xs) × (y ≡ x))
place_or_last [] y zero x e = inr (refl, cc)
place_or_last [] y (suc k) x e = cc
place_or_last (z ∷ xs) y zero x e = inl e
place_or_last (z ∷ xs) y (suc k) x e = elim (place_or_last xs y k x e) [
  | inl h ↦ inl h
  | inr h ↦ inr (ap (λ n. suc n) h.0, h.1)
]

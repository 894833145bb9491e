-- What marked elements give, element by element.
use Rattle.std.specs.Prelude.{ℕ, zero, suc, ◌≡◌, ◌+◌, ◌<◌, Bool, true, false, if◌then◌else◌, List, [], ◌∷◌, length, take, Some, slice_get, refl}
use Rattle.std.proofs.Common.{sym, subst, arith, inl, inr}
use Rattle.inference_proofs.proofs.Kept.{Has, has_before, has_behind, has_split}
use Rattle.given_parts.specs.Chosen.{chosen_from}

-- a marked element gives it
pub record IsGivenBy {X Y : Type 0} (give : ℕ → X → List Y) (k : ℕ) (marks : List Bool) (xs : List X) (y : Y) : Type 0 where
  pub at : ℕ
  pub from : X
  pub marked : slice_get marks at ≡ Some true
  pub there : slice_get xs at ≡ Some from
  pub given : Has (give (k + at) from) y

module _ {X Y : Type 0} (give : ℕ → X → List Y) where
  given_later : (k : ℕ) (b : Bool) (marks : List Bool) (x : X) (xs : List X) (y : Y) → IsGivenBy give (k + 1) marks xs y → IsGivenBy give k (b ∷ marks) (x ∷ xs) y
  given_later k b marks x xs y g =
      let same : k + 1 + g.at ≡ k + suc g.at = omega arith in
      record {
        at = suc g.at;
        from = g.from;
        marked = g.marked;
        there = g.there;
        given = subst (λ (n : ℕ). Has (give n g.from) y) same g.given;
      }

  given_here : (k : ℕ) (b : Bool) (marks : List Bool) (x : X) (xs : List X) (y : Y) → Has (if b then give k x else []) y → IsGivenBy give k (b ∷ marks) (x ∷ xs) y
  given_here k true marks x xs y h =
      let same : k ≡ k + 0 = omega arith in
      record {
        at = 0;
        from = x;
        marked = refl;
        there = refl;
        given = subst (λ (n : ℕ). Has (give n x) y) same h;
      }
  given_here k false marks x xs y h = cc

  -- what stands there is given
  pub given_by : (k : ℕ) (marks : List Bool) (xs : List X) (y : Y) → Has (chosen_from k give marks xs) y → IsGivenBy give k marks xs y
  given_by k [] xs y h = cc
  given_by k (b ∷ marks) [] y h = cc
  given_by k (b ∷ marks) (x ∷ xs) y h =
      elim (has_split (if b then give k x else []) (chosen_from (k + 1) give marks xs) y h.0 h.1) [
        | inl here ↦ given_here k b marks x xs y here
        | inr later ↦ given_later k b marks x xs y (given_by (k + 1) marks xs y later)
      ]

  -- what a marked element gives stands there
  pub has_given : (k : ℕ) (marks : List Bool) (xs : List X) (i : ℕ) (x : X) (y : Y) → slice_get marks i ≡ Some true → slice_get xs i ≡ Some x → Has (give (k + i) x) y → Has (chosen_from k give marks xs) y
  has_given k [] xs i x y marked there h = cc
  has_given k (b ∷ marks) [] i x y marked there h = cc
  has_given k (b ∷ marks) (z ∷ xs) zero x y marked there h =
      let on : b ≡ true = cc in
      let same : z ≡ x = cc in
      let here : k + 0 ≡ k = omega arith in
      let own : Has (give k z) y = subst (λ (n : ℕ). Has (give n z) y) here (subst (λ (w : X). Has (give (k + 0) w) y) (sym same) h) in
      has_before (if b then give k z else []) (chosen_from (k + 1) give marks xs) y (subst (λ (c : Bool). Has (if c then give k z else []) y) (sym on) own)
  has_given k (b ∷ marks) (z ∷ xs) (suc i) x y marked there h =
      let same : k + suc i ≡ k + 1 + i = omega arith in
      has_behind (if b then give k z else []) (chosen_from (k + 1) give marks xs) y (has_given (k + 1) marks xs i x y marked there (subst (λ (n : ℕ). Has (give n x) y) same h))

-- what is taken is there
pub taken_at : {X : Type 0} (n : ℕ) (xs : List X) (i : ℕ) (x : X) → slice_get (take n xs) i ≡ Some x → (i < n) × (slice_get xs i ≡ Some x)
taken_at zero xs i x e = cc
taken_at (suc n) [] i x e = cc
taken_at (suc n) (y ∷ xs) zero x e = (omega arith, e)
taken_at (suc n) (y ∷ xs) (suc i) x e = let rest = taken_at n xs i x e in (let lt = rest.0 in omega arith, rest.1)

pub at_taken : {X : Type 0} (n : ℕ) (xs : List X) (i : ℕ) (x : X) → i < n → slice_get xs i ≡ Some x → slice_get (take n xs) i ≡ Some x
at_taken zero xs i x lt e = absurd (omega arith)
at_taken (suc n) [] i x lt e = e
at_taken (suc n) (y ∷ xs) zero x lt e = e
at_taken (suc n) (y ∷ xs) (suc i) x lt e = at_taken n xs i x (omega arith) e

pub something_at : {X : Type 0} (xs : List X) (i : ℕ) → i < length xs → (x : X) × (slice_get xs i ≡ Some x)
something_at [] i lt = absurd (omega arith)
something_at (x ∷ xs) zero lt = (x, refl)
something_at (x ∷ xs) (suc i) lt = something_at xs i (omega arith)

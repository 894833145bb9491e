-- Lists in which one place is written, and lists that grow at their end.
use Rattle.std.proofs.Common.{◌≡◌, ℕ, zero, suc, ◌-◌, ◌<◌, ◌⊎◌, inl, inr, List, [], ◌∷◌, ◌++◌, length, Option, Some, slice_get, replicate, refl, ◌∙◌, ap, subst, arith, append_assoc, length-append}
use Rattle.std.specs.List.{All}
use Rattle.std.proofs.Math.ListN.{set}
use Rattle.std.proofs.lemmas.Option.{slice_get_within, get_or_from_slice_get}

module _ {X : Type 0} where
  -- what is written
  pub set_here : (xs : List X) (i : ℕ) (x : X) → i < length xs → slice_get (set xs i x) i ≡ Some x
  set_here [] i x lt = absurd (omega (arith, lt))
  set_here (y ∷ xs) zero x lt = refl
  set_here (y ∷ xs) (suc i) x lt = set_here xs i x (omega (arith, lt))

  -- what is elsewhere stays
  pub set_elsewhere : (xs : List X) (i k : ℕ) (x : X) → (k ≡ i → ⊥) → slice_get (set xs i x) k ≡ slice_get xs k
  set_elsewhere [] i k x apart = refl
  set_elsewhere (y ∷ xs) zero zero x apart = absurd (apart refl)
  set_elsewhere (y ∷ xs) zero (suc k) x apart = refl
  set_elsewhere (y ∷ xs) (suc i) zero x apart = refl
  set_elsewhere (y ∷ xs) (suc i) (suc k) x apart = set_elsewhere xs i k x (λ same. apart (ap suc same))

  -- what is there is what was written, or what was there
  pub set_cases : (xs : List X) (i k : ℕ) (x y : X) → slice_get (set xs i x) k ≡ Some y → ((k ≡ i) × (y ≡ x)) ⊎ (slice_get xs k ≡ Some y)
  set_cases [] i k x y at = inr at
  set_cases (z ∷ xs) zero zero x y at = inl (refl, cc)
  set_cases (z ∷ xs) zero (suc k) x y at = inr at
  set_cases (z ∷ xs) (suc i) zero x y at = inr at
  set_cases (z ∷ xs) (suc i) (suc k) x y at = on (set_cases xs i k x y at)
    where
      on : ((k ≡ i) × (y ≡ x)) ⊎ (slice_get xs k ≡ Some y) → ((suc k ≡ suc i) × (y ≡ x)) ⊎ (slice_get xs k ≡ Some y)
      on (inl (same, is)) = inl (ap suc same, is)
      on (inr there) = inr there

  -- what holds of each holds of the one at a place
  pub of_all : (P : X → Type 0) (xs : List X) (k : ℕ) (x : X) → All P xs → slice_get xs k ≡ Some x → P x
  of_all P xs k x all at = subst P (get_or_from_slice_get xs k x x at) (all k x (slice_get_within xs k x at))

  -- behind the end nothing changes
  pub stays_behind : (xs ys : List X) (k : ℕ) (x : X) → slice_get xs k ≡ Some x → slice_get (xs ++ ys) k ≡ Some x
  stays_behind [] ys k x at = absurd (cc)
  stays_behind (y ∷ xs) ys zero x at = at
  stays_behind (y ∷ xs) ys (suc k) x at = stays_behind xs ys k x at

  pub comes_last : (xs : List X) (x : X) → slice_get (xs ++ x ∷ []) (length xs) ≡ Some x
  comes_last [] x = refl
  comes_last (y ∷ xs) x = comes_last xs x

  -- what is last
  pub last_is : (xs : List X) (x : X) → slice_get (xs ++ x ∷ []) (length (xs ++ x ∷ []) - 1) ≡ Some x
  last_is xs x = let at : length (xs ++ x ∷ []) - 1 ≡ length xs = omega (arith, length-append xs (x ∷ [])) in ap (slice_get (xs ++ x ∷ [])) at ∙ comes_last xs x

  pub last_behind : (xs ys : List X) (x : X) → slice_get (xs ++ (ys ++ x ∷ [])) (length (xs ++ (ys ++ x ∷ [])) - 1) ≡ Some x
  last_behind xs ys x = subst (λ (zs : List X). slice_get zs (length zs - 1) ≡ Some x) (append_assoc xs ys (x ∷ [])) (last_is (xs ++ ys) x)

  -- two values of one place
  pub one_value : (o : Option X) (x y : X) → o ≡ Some x → o ≡ Some y → x ≡ y
  one_value o x y first second = cc

  pub in_replicate : (n k : ℕ) (x y : X) → slice_get (replicate n x) k ≡ Some y → y ≡ x
  in_replicate zero k x y at = absurd (cc)
  in_replicate (suc n) zero x y at = cc
  in_replicate (suc n) (suc k) x y at = in_replicate n k x y at

  -- a place within a list has a value
  pub has_value : (xs : List X) (k : ℕ) → k < length xs → (x : X) × (slice_get xs k ≡ Some x)
  has_value [] k lt = absurd (omega (arith, lt))
  has_value (y ∷ xs) zero lt = (y, refl)
  has_value (y ∷ xs) (suc k) lt = has_value xs k (omega (arith, lt))

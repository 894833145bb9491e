-- Where the members of members stand.
use Rattle.std.specs.Prelude.{ℕ, ◌≡◌, ◌+◌, ◌<◌, ◌≤◌, length, take, flat_map, get_or, List, [], ◌∷◌, ◌++◌, Some, refl, slice_get}
use Rattle.std.proofs.Common.{arith, sym, ap, zero, suc, append_assoc}
use Rattle.std.proofs.lemmas.List.{length-append, append-nil}
use Rattle.std.proofs.lemmas.List.Concat.{flat_map-cons}

-- the item that indexing gives
pub at_index : {X : Type 0} (xs : List X) (k : ℕ) (x : X) → k < length xs → x ≡ get_or xs k x → slice_get xs k ≡ Some x
at_index [] k x lt is = absurd (omega arith)
at_index (y ∷ xs) zero x lt is = ap Some (sym is)
at_index (y ∷ xs) (suc k) x lt is = at_index xs k x (omega arith) is

-- a list of one item
pub one_alone : {X : Type 0} (xs : List X) (x : X) → length xs ≡ 1 → x ≡ get_or xs 0 x → xs ≡ x ∷ []
one_alone [] x e is = absurd (omega arith)
one_alone (y ∷ []) x e is = ap (λ z. z ∷ []) (sym is)
one_alone (y ∷ z ∷ xs) x e is = absurd (omega arith)

pub take_more : {X : Type 0} (xs : List X) (k : ℕ) (x : X) → slice_get xs k ≡ Some x → take (k + 1) xs ≡ take k xs ++ x ∷ []
take_more [] k x e = cc
take_more (y ∷ xs) zero x e = let same : y ≡ x = cc in rw same refl
take_more (y ∷ xs) (suc k) x e =
    let next : suc k + 1 ≡ suc (k + 1) = omega arith in
    rw next (ap (λ ys. y ∷ ys) (take_more xs k x e))

in_first : {X : Type 0} (xs ys : List X) (j : ℕ) (x : X) → slice_get xs j ≡ Some x → slice_get (xs ++ ys) j ≡ Some x
in_first [] ys j x e = cc
in_first (y ∷ xs) ys zero x e = e
in_first (y ∷ xs) ys (suc j) x e = in_first xs ys j x e

in_second : {X : Type 0} (xs ys : List X) (j : ℕ) (x : X) → slice_get ys j ≡ Some x → slice_get (xs ++ ys) (length xs + j) ≡ Some x
in_second [] ys j x e = let same : 0 + j ≡ j = omega arith in rw same e
in_second (y ∷ xs) ys j x e = let same : suc (length xs) + j ≡ suc (length xs + j) = omega arith in rw same (in_second xs ys j x e)

module _ {X Y : Type 0} (f : X → List Y) where
  pub flat_more : (xs : List X) (k : ℕ) (x : X) → slice_get xs k ≡ Some x → flat_map f (take (k + 1) xs) ≡ flat_map f (take k xs) ++ f x
  flat_more [] k x e = cc
  flat_more (y ∷ xs) zero x e = let same : y ≡ x = cc in rw same (append-nil (f x))
  flat_more (y ∷ xs) (suc k) x e =
      let next : suc k + 1 ≡ suc (k + 1) = omega arith in
      rw (next, flat_map-cons f y (take (k + 1) xs), flat_map-cons f y (take k xs), flat_more xs k x e) (sym (append_assoc (f y) (flat_map f (take k xs)) (f x)))

  -- the members of a member stand behind those of the members before it
  pub stands_behind : (xs : List X) (k : ℕ) (x : X) → slice_get xs k ≡ Some x → (j : ℕ) (y : Y) → slice_get (f x) j ≡ Some y → slice_get (flat_map f xs) (length (flat_map f (take k xs)) + j) ≡ Some y
  stands_behind [] k x e j y at = cc
  stands_behind (z ∷ xs) zero x e j y at =
      let same : z ≡ x = cc in
      let none : 0 + j ≡ j = omega arith in
      rw (flat_map-cons f z xs, same, none) (in_first (f x) (flat_map f xs) j y at)
  stands_behind (z ∷ xs) (suc k) x e j y at =
      let rest = stands_behind xs k x e j y at in
      let count : length (f z ++ flat_map f (take k xs)) + j ≡ length (f z) + (length (flat_map f (take k xs)) + j) = rw length-append (omega arith) in
      rw (flat_map-cons f z xs, flat_map-cons f z (take k xs), count) (in_second (f z) (flat_map f xs) (length (flat_map f (take k xs)) + j) y rest)

  pub few_behind : (xs : List X) (k : ℕ) (x : X) → slice_get xs k ≡ Some x → length (flat_map f (take k xs)) + length (f x) ≤ length (flat_map f xs)
  few_behind [] k x e = cc
  few_behind (z ∷ xs) zero x e = let same : z ≡ x = cc in rw (flat_map-cons f z xs, same, length-append) (omega arith)
  few_behind (z ∷ xs) (suc k) x e = let rest = few_behind xs k x e in rw (flat_map-cons f z xs, flat_map-cons f z (take k xs), length-append, length-append) (omega arith)

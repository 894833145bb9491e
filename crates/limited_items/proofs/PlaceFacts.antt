-- What holds of each element of a list at its place, in a loop over the list.
use Rattle.std.specs.Prelude.{ℕ, ◌≡◌, ◌+◌, ◌<◌, ◌≤◌, List, [], ◌∷◌, ◌++◌, length, get_or, take, Some, slice_get, refl}
use Rattle.std.specs.List.{AllZip}
use Rattle.std.proofs.Common.{ap, sym, subst, ◌∙◌, arith, below_more}
use Rattle.std.proofs.lemmas.List.{take_more}
use Rattle.std.proofs.lemmas.Option.{slice_get_read, slice_get_within}
use Rattle.std.proofs.lemmas.Slice.Zip.{all_zipped_more}

-- below that place
abbrev pub HoldUpTo : {X : Type 0} → (ℕ → X → Type 0) → List X → ℕ → Type 0
HoldUpTo {X} P xs n = (k : ℕ) → k < n → (x : X) → slice_get xs k ≡ Some x → P k x

some_is : {X : Type 0} (x y : X) → Some x ≡ Some y → x ≡ y
some_is x y e = cc

pub taken : {X : Type 0} (xs : List X) (i : ℕ) (x : X) → i < length xs → x ≡ get_or xs i x → take i xs ++ x ∷ [] ≡ take (i + 1) xs
taken {X} xs i x lt is = ap (λ (y : X). take i xs ++ y ∷ []) is ∙ sym (take_more xs i x lt)

pub zipped : {X Y : Type 0} (R : X → Y → Type 0) (xs : List X) (ys : List Y) (i : ℕ) (x : X) (y : Y) (new : List Y) → i < length xs → x ≡ get_or xs i x → AllZip R (take i xs) ys → R x y → new ≡ ys ++ y ∷ [] → AllZip R (take (i + 1) xs) new
zipped {X} {Y} R xs ys i x y new lt is all one made =
    subst (AllZip R (take (i + 1) xs)) (sym made) (subst (λ (zs : List X). AllZip R zs (ys ++ y ∷ [])) (taken xs i x lt is) (all_zipped_more R (take i xs) ys x y all one))

module _ {X : Type 0} (P : ℕ → X → Type 0) (xs : List X) where
  pub hold_none : HoldUpTo P xs 0
  hold_none k lt = absurd (omega arith)

  pub hold_more : (i : ℕ) (x : X) → i < length xs → x ≡ get_or xs i x → HoldUpTo P xs i → P i x → HoldUpTo P xs (i + 1)
  hold_more i x lt is all one =
      let at : slice_get xs i ≡ Some x = slice_get_read xs (length xs) i x refl lt is in
      below_more (λ (k : ℕ). (y : X) → slice_get xs k ≡ Some y → P k y) i all (λ y there. subst (P i) (some_is x y (sym at ∙ there)) one)

  pub hold_all : (i : ℕ) → length xs ≤ i → HoldUpTo P xs i → (k : ℕ) (x : X) → slice_get xs k ≡ Some x → P k x
  hold_all i past all k x at = let lt = slice_get_within xs k x at in all k (omega arith) x at

-- What stands in a list.
use Rattle.std.proofs.Common.{◌≡◌, ℕ, zero, suc, ◌+◌, ◌-◌, ◌<◌, ◌≤◌, ◌⊎◌, List, [], ◌∷◌, ◌++◌, length, map, get_or, Option, Some, None, slice_get, Contains, refl, sym, ap, ◌∙◌, inl, inr, arith}
use Rattle.std.proofs.lemmas.List.Elements.{Contains-append_cases, Contains-append_left, Contains-append_right, Contains-push, Contains-push_cases}
use Rattle.std.specs.Option.{option_map}
use Rattle.std.proofs.lemmas.Option.{slice_get-map, slice_get_within, get_or_from_slice_get, slice_get-get_or}

pub some_same : {X : Type 0} {x y : X} → Some x ≡ Some y → x ≡ y
some_same {X} {x} {y} e = ap value_or e
  where
    value_or : Option X → X
    value_or (Some z) = z
    value_or None = x

pub none_some : {X : Type 0} (x : X) → None ≡ Some x → ⊥
none_some x e = cc

pub nothing_in : {X : Type 0} (x : X) → Contains [] x → ⊥
nothing_in x h = omega (arith, h.1)

-- what stands in a longer list is its head or stands in the rest
pub in_cons : {X : Type 0} (y : X) (xs : List X) (x : X) → Contains (y ∷ xs) x → (y ≡ x) ⊎ Contains xs x
in_cons y xs x h =
    elim (Contains-append_cases (y ∷ []) xs x h) [
      | inl here ↦ elim (Contains-push_cases [] y x here) [ inl none ↦ absurd (nothing_in x none) | inr e ↦ inl e ]
      | inr rest ↦ inr rest
    ]

pub head_in : {X : Type 0} (x : X) (xs : List X) → Contains (x ∷ xs) x
head_in x xs = Contains-append_left (x ∷ []) xs x (Contains-push [] x)

pub tail_in : {X : Type 0} (y : X) (xs : List X) (x : X) → Contains xs x → Contains (y ∷ xs) x
tail_in y xs x h = Contains-append_right (y ∷ []) xs x h

-- what is read stands in the list
pub got_in : {X : Type 0} (xs : List X) (k : ℕ) (x : X) → slice_get xs k ≡ Some x → Contains xs x
got_in xs k x e = (k, slice_get_within xs k x e, get_or_from_slice_get xs k x x e)

-- what stands in a list is read somewhere
pub place_of : {X : Type 0} (xs : List X) (x : X) → Contains xs x → (k : ℕ) × (slice_get xs k ≡ Some x)
place_of xs x h = (h.0, slice_get-get_or xs h.0 x h.1 ∙ ap (λ y. Some y) h.2)

-- what is read from a list is read from a longer one
pub got_left : {X : Type 0} (xs ys : List X) (k : ℕ) (x : X) → slice_get xs k ≡ Some x → slice_get (xs ++ ys) k ≡ Some x
got_left [] ys k x e = cc
got_left (y ∷ xs) ys zero x e = e
got_left (y ∷ xs) ys (suc k) x e = got_left xs ys k x e

-- what is read behind a list
pub got_right : {X : Type 0} (xs ys : List X) (k : ℕ) → slice_get (xs ++ ys) (length xs + k) ≡ slice_get ys k
got_right [] ys k = rw (zero_add' k) refl
  where
    zero_add' : (k : ℕ) → 0 + k ≡ k
    zero_add' k = omega arith
got_right (y ∷ xs) ys k = rw (suc_add' (length xs) k) (got_right xs ys k)
  where
    suc_add' : (a b : ℕ) → suc a + b ≡ suc (a + b)
    suc_add' a b = omega arith

pub got_push : {X : Type 0} (xs : List X) (y : X) → slice_get (xs ++ y ∷ []) (length xs) ≡ Some y
got_push [] y = refl
got_push (x ∷ xs) y = got_push xs y

pub got_front : {X : Type 0} (xs ys : List X) (k : ℕ) → k < length xs → slice_get (xs ++ ys) k ≡ slice_get xs k
got_front [] ys k h = absurd (omega (arith, h))
got_front (x ∷ xs) ys zero h = refl
got_front (x ∷ xs) ys (suc k) h = got_front xs ys k (omega (arith, h))

pub got_behind : {X Y : Type 0} (f : X → Y) (ys : List Y) (xs : List X) (k : ℕ) → length ys ≤ k → slice_get (ys ++ map f xs) k ≡ option_map f (slice_get xs (k - length ys))
got_behind f [] xs k h = let e : k - 0 ≡ k = omega arith in slice_get-map f xs k ∙ ap (λ (n : ℕ). option_map f (slice_get xs n)) (sym e)
got_behind f (y ∷ ys) xs zero h = absurd (omega (arith, h))
got_behind f (y ∷ ys) xs (suc k) h =
    let e : suc k - suc (length ys) ≡ k - length ys = omega arith in
    got_behind f ys xs k (omega (arith, h)) ∙ ap (λ (n : ℕ). option_map f (slice_get xs n)) (sym e)

-- where nothing is read, the default is
pub none_or : {X : Type 0} (xs : List X) (k : ℕ) (d : X) → slice_get xs k ≡ None → get_or xs k d ≡ d
none_or [] k d e = refl
none_or (x ∷ xs) zero d e = absurd (none_some x (sym e))
none_or (x ∷ xs) (suc k) d e = none_or xs k d e

pub none_past : {X : Type 0} (xs : List X) (k : ℕ) → slice_get xs k ≡ None → k < length xs → ⊥
none_past [] k e h = omega (arith, h)
none_past (x ∷ xs) zero e h = none_some x (sym e)
none_past (x ∷ xs) (suc k) e h = none_past xs k e (omega (arith, h))

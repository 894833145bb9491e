-- Members of lists, by place and by value.
use Rattle.std.specs.Prelude.{ℕ, ◌+◌, ◌<◌, ◌≤◌, List, [], ◌∷◌, ◌++◌, ◌≡◌, ◌⊎◌, map, Some, slice_get, length, take, refl, Bool, false, IsTrue, ◌↔◌}
use Rattle.std.specs.List.{Contains, All as Each}
use Rattle.std.proofs.Common.{ap, sym, subst, arith, inl, inr, zero, suc, get_or}
use Rattle.std.proofs.lemmas.List.Elements.{All-contains_itself, All-weaker, All-get_or, All-more, Contains-get_or}
use Rattle.std.proofs.lemmas.List.{take_all}

pub no_member : {X : Type 0} (x : X) → Contains [] x → ⊥
no_member x h = let within = h.1 in omega arith

pub each_of : {X : Type 0} (P : X → Type 0) (xs : List X) → ((x : X) → Contains xs x → P x) → Each P xs
each_of P xs h = All-weaker (Contains xs) P h xs (All-contains_itself xs)

pub got_pushed : {X : Type 0} (xs : List X) (x : X) (i : ℕ) (m : X) → slice_get (xs ++ x ∷ []) i ≡ Some m → ((i < length xs) × (slice_get xs i ≡ Some m)) ⊎ ((i ≡ length xs) × (m ≡ x))
got_pushed [] x zero m e = inr (refl, cc)
got_pushed [] x (suc i) m e = cc
got_pushed (y ∷ xs) x zero m e = inl (omega arith, e)
got_pushed (y ∷ xs) x (suc i) m e =
    elim (got_pushed xs x i m e) [
      | inl h ↦ let a = h.0 in inl (omega arith, h.1)
      | inr h ↦ let a = h.0 in inr (omega arith, h.1)
    ]

-- a member read by its place
pub each_at : {X : Type 0} (P : X → Type 0) (xs : List X) (i : ℕ) (x : X) → Each P xs → i < length xs → x ≡ get_or xs i x → P x
each_at P xs i x all h is = subst P (sym is) (All-get_or P xs i x h all)

pub each_more : {X : Type 0} (P : X → Type 0) (xs : List X) (i : ℕ) (x : X) → i < length xs → x ≡ get_or xs i x → Each P (take i xs) → P x → Each P (take (i + 1) xs)
each_more P xs i x h is all p = All-more P xs i x h all (subst P is p)

pub each_all : {X : Type 0} (P : X → Type 0) (xs : List X) (i : ℕ) → length xs ≤ i → Each P (take i xs) → Each P xs
each_all P xs i h all = subst (λ (ys : List _). Each P ys) (take_all i xs h) all

pub member_at : {X : Type 0} (xs : List X) (i : ℕ) (x : X) → i < length xs → x ≡ get_or xs i x → Contains xs x
member_at xs i x h is = subst (λ y. Contains xs y) (sym is) (Contains-get_or xs i x h)

pub got_member : {X : Type 0} (xs : List X) (i : ℕ) (x : X) → slice_get xs i ≡ Some x → Contains xs x
got_member [] i x e = cc
got_member (y ∷ xs) zero x e = (0, omega arith, cc)
got_member (y ∷ xs) (suc i) x e = let h = got_member xs i x e in (suc h.0, let a = h.1 in omega arith, h.2)

pub got_append : {X : Type 0} (xs ys : List X) (i : ℕ) (x : X) → slice_get xs i ≡ Some x → slice_get (xs ++ ys) i ≡ Some x
got_append [] ys i x e = cc
got_append (y ∷ xs) ys zero x e = e
got_append (y ∷ xs) ys (suc i) x e = got_append xs ys i x e

-- what is mapped comes from a member
pub from_mapped : {X Y : Type 0} (f : X → Y) (xs : List X) (y : Y) → Contains (map f xs) y → (x : X) × Contains xs x × (f x ≡ y)
from_mapped f [] y h = absurd (no_member y h)
from_mapped f (x ∷ xs) y (zero, h, is) = (x, (0, omega arith, refl), is)
from_mapped f (x ∷ xs) y (suc k, h, is) =
    let rest = from_mapped f xs y (k, omega arith, is) in (rest.0, (suc rest.1.0, let a = rest.1.1 in omega arith, rest.1.2), rest.2)

pub to_mapped : {X Y : Type 0} (f : X → Y) (xs : List X) (x : X) → Contains xs x → Contains (map f xs) (f x)
to_mapped f [] x h = absurd (no_member x h)
to_mapped f (y ∷ xs) x (zero, h, is) = (0, omega arith, ap f is)
to_mapped f (y ∷ xs) x (suc k, h, is) = let rest = to_mapped f xs x (k, omega arith, is) in (suc rest.0, let a = rest.1 in omega arith, rest.2)

pub untrue : (b : Bool) (P : Type 0) → b ≡ false → (IsTrue b ↔ P) → P → ⊥
untrue b P e h p = let t : IsTrue b = h.1 p in cc

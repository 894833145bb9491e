-- Lists in which no number stands twice.
use Rattle.std.specs.Prelude.{ℕ, ◌≡◌, ◌+◌, ◌<◌, ◌==◌, ◌||◌, nat_eq, Bool, true, false, List, [], ◌∷◌, ◌++◌, length, take, get_or, refl}
use Rattle.std.specs.List.{AllByRecursion, IsDistinct, list_any, Contains}
use Rattle.std.specs.Cmp.{nat_eq_equiv}
use Rattle.std.proofs.Common.{ap, sym, subst, ◌∙◌, arith, ◌⊎◌, inl, inr, zero, suc, add-one}
use Rattle.std.proofs.lemmas.Bool.Decides.{nat_tests}
use Rattle.std.proofs.lemmas.List.{take_more}
use Rattle.std.proofs.lemmas.Map.Keys.{IsDistinct-push, IsDistinct-head, IsDistinct-tail}
use Rattle.fof_terms.specs.Standing.{is_listed}

same_either : (x y : ℕ) → nat_eq y x ≡ nat_eq x y
same_either x y = nat_eq_equiv.symm y x

pub same_among : (xs : List ℕ) (y : ℕ) → list_any (nat_eq y) xs ≡ is_listed xs y
same_among [] y = refl
same_among (x ∷ xs) y = rw (same_either x y, same_among xs y) refl

pub distinct_none : IsDistinct nat_eq []
unfolding IsDistinct
distinct_none = tt

-- one more that is not among those before it
pub distinct_more : (xs : List ℕ) (i y : ℕ) → i < length xs → y ≡ get_or xs i y → is_listed (take i xs) y ≡ false → IsDistinct nat_eq (take i xs) → IsDistinct nat_eq (take (i + 1) xs)
distinct_more xs i y lt is off h =
    rw (take_more xs i y lt, sym is) (IsDistinct-push nat_eq_equiv (take i xs) y h (same_among (take i xs) y ∙ off))

one_way : (a b : Bool) → (a || b) ≡ true → (a ≡ true) ⊎ (b ≡ true)
one_way true b e = inl refl
one_way false b e = inr e

apart_at : (P : ℕ → Type 0) (xs : List ℕ) (i d : ℕ) → AllByRecursion P xs → i < length xs → P (get_or xs i d)
apart_at P [] i d all lt = absurd (omega arith)
apart_at P (x ∷ xs) zero d all lt = all.0
apart_at P (x ∷ xs) (suc i) d all lt = apart_at P xs i d all.1 (omega arith)

-- one that is among those before it
pub not_distinct : (xs : List ℕ) (i y : ℕ) → i < length xs → y ≡ get_or xs i y → is_listed (take i xs) y ≡ true → IsDistinct nat_eq xs → ⊥
not_distinct [] i y lt is e h = absurd (omega arith)
not_distinct (x ∷ xs) zero y lt is e h = cc
not_distinct (x ∷ xs) (suc i) y lt is e h =
    elim (one_way (x == y) (is_listed (take i xs) y) e) [
      | inl here ↦
          let apart : nat_eq x (get_or xs i y) ≡ false = apart_at (λ z. nat_eq x z ≡ false) xs i y (IsDistinct-head nat_eq x xs h) (omega arith) in
          let apart' : nat_eq x y ≡ false = rw (sym is) at apart in
          cc
      | inr there ↦ not_distinct xs i y (omega arith) is there (IsDistinct-tail nat_eq x xs h)
    ]

-- what is among the list is contained in it
pub among_contains : (xs : List ℕ) (k : ℕ) → is_listed xs k ≡ true → Contains xs k
among_contains [] k e = cc
among_contains (x ∷ xs) k e =
    elim (one_way (x == k) (is_listed xs k) e) [
      | inl here ↦ (0, omega arith, grind (arith, nat_tests))
      | inr there ↦ let at = among_contains xs k there in (suc at.0, omega (arith, at.1), at.2)
    ]

or_true : (a b : Bool) → b ≡ true → (a || b) ≡ true
or_true true b e = refl
or_true false b e = e

pub contains_among : (xs : List ℕ) (k : ℕ) → Contains xs k → is_listed xs k ≡ true
contains_among [] k c = absurd (omega (arith, c.1))
contains_among (x ∷ xs) k (zero, lt, e) = let same : x ≡ k = e in let here : (x == k) ≡ true = grind (arith, nat_tests) in rw here refl
contains_among (x ∷ xs) k (suc i, lt, e) = or_true (x == k) (is_listed xs k) (contains_among xs k (i, omega arith, e))

-- as code meets them
same_default : (xs : List ℕ) (i d e : ℕ) → i < length xs → get_or xs i d ≡ get_or xs i e
same_default [] i d e lt = absurd (omega arith)
same_default (x ∷ xs) zero d e lt = refl
same_default (x ∷ xs) (suc i) d e lt = same_default xs i d e (omega arith)

pub next_distinct : (xs : List ℕ) (i : ℕ) (b : Bool) → i < length xs → b ≡ is_listed (take i xs) (get_or xs i 0) → b ≡ false → IsDistinct nat_eq (take i xs) → IsDistinct nat_eq (take (i + 1) xs)
next_distinct xs i b lt is off h = distinct_more xs i (get_or xs i 0) lt (same_default xs i 0 (get_or xs i 0) lt) (sym is ∙ off) h

pub not_all_distinct : (xs : List ℕ) (i : ℕ) (b : Bool) → i < length xs → b ≡ is_listed (take i xs) (get_or xs i 0) → b ≡ true → IsDistinct nat_eq xs → ⊥
not_all_distinct xs i b lt is on_ h = not_distinct xs i (get_or xs i 0) lt (same_default xs i 0 (get_or xs i 0) lt) (sym is ∙ on_) h

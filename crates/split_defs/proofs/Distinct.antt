-- Variables that stand in a list twice.
use Rattle.std.proofs.Common.{ℕ, ◌≡◌, ◌<◌, ◌||◌, Bool, true, false, List, [], ◌∷◌, map, take, length, get_or, nat_eq, arith, zero, suc, refl, sym, ap, ◌∙◌, inl, inr, ◌⊎◌}
use Rattle.std.specs.List.{list_any, IsDistinct, AllByRecursion}
use Rattle.std.proofs.lemmas.Bool.Decides.{nat_tests}
use Rattle.fof_terms.specs.declared.term.Term.{Var}

pub is_equal : (n k : ℕ) → nat_eq n k ≡ true → n ≡ k
is_equal n k e = grind (arith, nat_tests)

pub equals_itself : (n : ℕ) → nat_eq n n ≡ true
equals_itself n = grind (arith, nat_tests)

pub either : (a b : Bool) → (a || b) ≡ true → (a ≡ true) ⊎ (b ≡ true)
either true b e = inl refl
either false b e = inr e

member_is : (P : ℕ → Type 0) (xs : List ℕ) (i n : ℕ) → AllByRecursion P xs → i < length xs → get_or (map Var xs) i (Var n) ≡ Var n → P n
member_is P [] i n all lt e = absurd (omega arith)
member_is P (x ∷ xs) zero n all lt e = let same : x ≡ n = cc in rw same at all.0
member_is P (x ∷ xs) (suc i) n all lt e = member_is P xs i n all.1 (omega arith) e

-- a variable that stands among the first ones does not come again
pub comes_once : (xs ks : List ℕ) (i n : ℕ) → map Var ks ≡ take i (map Var xs) → i < length xs → get_or (map Var xs) i (Var n) ≡ Var n → IsDistinct nat_eq xs → list_any (nat_eq n) ks ≡ true → ⊥
unfolding IsDistinct
comes_once [] ks i n front lt at apart e = absurd (omega arith)
comes_once (x ∷ xs) [] i n front lt at apart e = cc
comes_once (x ∷ xs) (k ∷ ks) zero n front lt at apart e = cc
comes_once (x ∷ xs) (k ∷ ks) (suc i) n front lt at apart e =
    elim (either (nat_eq n k) (list_any (nat_eq n) ks) e) [
      | inl h ↦
          let first : Var k ≡ Var x = cc in
          let it : k ≡ x = cc in
          let is : n ≡ x = is_equal n k h ∙ it in
          let other : nat_eq x n ≡ false = member_is (λ y. nat_eq x y ≡ false) xs i n apart.0 (omega arith) at in
          let same : nat_eq x n ≡ true = ap (λ m. nat_eq m n) (sym is) ∙ equals_itself n in
          let both : true ≡ false = sym same ∙ other in
          cc
      | inr h ↦ let rest : map Var ks ≡ take i (map Var xs) = cc in comes_once xs ks i n rest (omega arith) at apart.1 h
    ]

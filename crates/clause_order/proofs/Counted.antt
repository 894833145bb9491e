-- Variables that are counted one after the other.
use Rattle.std.specs.Prelude.{ℕ, ◌+◌, ◌<◌, ◌≤◌, ◌≡◌, List, [], ◌∷◌, map, sum, length, take, get_or, Option, None, Some}
use Rattle.std.proofs.Common.{arith, ap, sym, ◌∙◌, zero, suc, add-one}
use Rattle.std.proofs.lemmas.Bool.Decides.{nat_tests}
use Rattle.std.proofs.lemmas.List.Sums.{sum_by-cons}
use Rattle.fof_terms.specs.declared.term.Term.{Term, Var, App}
use Rattle.clause_order.specs.Order.{occurrences}
use Rattle.clause_order.specs.Weights.{stopped}
use Rattle.clause_order.specs.code.Next.{IsNext}
use Rattle.clause_order.proofs.OccurrencesFacts.{occurrences-Var, occurrences-App}

-- each variable below this number counts at least as much on the first side
abbrev pub FitsBelow : ℕ → (ℕ → ℕ) → (ℕ → ℕ) → Type 0
FitsBelow from more fewer = (x : ℕ) → x < from → stopped (fewer x) ≤ stopped (more x)

-- counts that are the same
pub next_same : (c d : ℕ → ℕ) (from : ℕ) (o : Option ℕ) → ((x : ℕ) → d x ≡ c x) → IsNext c from o → IsNext d from o
next_same c d from None e h = λ x up. e x ∙ h x up
next_same c d from (Some y) e h = (h.0, λ x up before. e x ∙ h.1 x up before)

elsewhere : (x k : ℕ) → (x ≡ k → ⊥) → occurrences x (Var k) ≡ 0
elsewhere x k h = grind (arith, nat_tests, occurrences-Var)

pub below_from : (t : Term) (k from m : ℕ) → t ≡ Var k → m ≡ k → m < from → (x : ℕ) → from ≤ x → occurrences x t ≡ 0
below_from t k from m is same h x up = ap (occurrences x) is ∙ elsewhere x k (λ e. absurd (omega arith))

pub at_variable : (t : Term) (k from m : ℕ) → t ≡ Var k → m ≡ k → from ≤ m
    → (from ≤ k) × ((x : ℕ) → from ≤ x → x < k → occurrences x t ≡ 0)
at_variable t k from m is same h = (
  omega arith,
  λ x up before. ap (occurrences x) is ∙ elsewhere x k
      (λ e. absurd (omega arith)),
)

pub next_in_app : (t : Term) (f from : ℕ) (ts lent : List Term) (o : Option ℕ) → t ≡ App f ts → lent ≡ ts
    → IsNext (λ x. sum (map (occurrences x) lent)) from o → IsNext (λ x. occurrences x t) from o
next_in_app t f from ts lent o is same h =
    next_same _ _ from o (λ x. ap (occurrences x) is ∙ occurrences-App x f ts ∙ ap
    (λ (zs : List Term). sum (map (occurrences x) zs)) (sym same)) h

pub next_in_pair : (t l r : Term) (f from : ℕ) (o : Option ℕ) → t ≡ App f (l ∷ r ∷ [])
    → IsNext (λ x. occurrences x l + occurrences x r) from o → IsNext (λ x. occurrences x t) from o
next_in_pair t l r f from o is h = next_same _ _ from o (λ x. ap (occurrences x) is ∙ occurrences-App x f (l ∷ r ∷ []) ∙
    (omega arith)) h

pub next_in_none : (t : Term) (f from : ℕ) → t ≡ App f [] → (x : ℕ) → from ≤ x → occurrences x t ≡ 0
next_in_none t f from is x up = ap (occurrences x) is ∙ occurrences-App x f [] ∙ (omega arith)

sum_cons : (x : ℕ) (xs : List ℕ) → sum (x ∷ xs) ≡ x + sum xs
sum_cons x xs = sum_by-cons (λ x. x) x xs

sum_one_more : (f : Term → ℕ) (ts : List Term) (i : ℕ) (t : Term) → i < length ts → t ≡ get_or ts i t
    → sum (map f (take (suc i) ts)) ≡ sum (map f (take i ts)) + f t
sum_one_more f [] i t h e = absurd (omega arith)
sum_one_more f (y ∷ ts) zero t h e = let same : f t ≡ f y = ap f e in let one = sum_cons (f y) [] in omega arith
sum_one_more f (y ∷ ts) (suc i) t h e =
    let rest = sum_one_more f ts i t (omega arith) e in
    let more = sum_cons (f y) (map f (take (suc i) ts)) in
    let fewer = sum_cons (f y) (map f (take i ts)) in
    omega arith

pub next_in_more : (ts : List Term) (i from : ℕ) (t : Term) (o : Option ℕ) → i < length ts → t ≡ get_or ts i t
    → IsNext (λ x. sum (map (occurrences x) (take i ts)) + occurrences x t) from o
    → IsNext (λ x. sum (map (occurrences x) (take (i + 1) ts))) from o
next_in_more ts i from t o h e next = next_same _ _ from o (λ x. rw add-one (sum_one_more (occurrences x) ts i t h e))
    next

-- When a literal is eligible.
use Rattle.std.specs.Prelude.{ℕ, ◌+◌, ◌<◌, ◌≤◌, ◌≡◌, ◌↔◌, Bool, true, false, IsTrue, List, Some, slice_get, length}
use Rattle.std.specs.Prelude.{get_or, refl}
use Rattle.std.proofs.Common.{arith, ap, sym, subst, ◌∙◌, inl, inr}
use Rattle.std.proofs.lemmas.Option.{slice_get-get_or, slice_get_within}
use Rattle.clause_form.specs.declared.clause.Lit.{Lit}
use Rattle.fof_terms.proofs.LiftingLaws.{below_or_above}
use Rattle.clause_order.specs.Weights.{lit_weight}
use Rattle.clause_order.specs.Order.{Exceeds}
use Rattle.clause_order.specs.Eligible.{IsUnexceeded}
use Rattle.clause_order.proofs.Decided.{untrue}

-- the negative literals below a place are no heavier, and lighter before the chosen one
abbrev pub AreNotBefore : List Lit → ℕ → ℕ → ℕ → Type 0
AreNotBefore lits weight at place = (n : ℕ) (k : Lit) → n < place → slice_get lits n ≡ Some k → k.positive ≡ false →
    (lit_weight k ≤ weight) × (lit_weight k ≡ weight → at ≤ n)

-- the literals below a place are positive, and do not exceed the chosen one
abbrev pub DoNotExceed : List Lit → Lit → ℕ → Type 0
DoNotExceed lits chosen place = (n : ℕ) (k : Lit) → n < place → slice_get lits n ≡ Some k → (k.positive ≡ true) ×
    (Exceeds k chosen → ⊥)

stands : (lits : List Lit) (i : ℕ) (l : Lit) → i < length lits → l ≡ get_or lits i l → slice_get lits i ≡ Some l
stands lits i l h is = slice_get-get_or lits i l h ∙ ap Some (sym is)

pub one_more_positive : (lits : List Lit) (chosen l : Lit) (i : ℕ) → i < length lits → l ≡ get_or lits i l
    → DoNotExceed lits chosen i → l.positive ≡ true → (b : Bool) → b ≡ false → (IsTrue b ↔ Exceeds l chosen)
    → DoNotExceed lits chosen (i + 1)
one_more_positive lits chosen l i h is so positive b told test = λ n k below at. elim (below_or_above n i) [
  | inl a ↦ so n k a at
  | inr a ↦
      let same : n ≡ i = omega arith in
      let there : Some k ≡ Some l = sym at ∙ ap (slice_get lits) same ∙ stands lits i l h is in
      let one : k ≡ l = cc in (
        ap (λ (m : Lit). m.positive) one ∙ positive,
        λ e. untrue b (Exceeds l chosen) told test
            (subst (λ (m : Lit). Exceeds m chosen) one e),
      )
]

pub all_positive : (lits : List Lit) (chosen : Lit) (at i : ℕ) → at < length lits → chosen ≡ get_or lits at chosen
    → length lits ≤ i → DoNotExceed lits chosen i → IsTrue true ↔ IsUnexceeded lits at
all_positive lits chosen at i h is past so = (
  λ e. record {
    chosen = chosen;
    here = stands lits at chosen h is;
    positive = λ n k there. (so n k (let in_ = slice_get_within lits n k there in omega arith) there).0;
    unexceeded = λ n k there. (so n k (let in_ = slice_get_within lits n k there in omega arith) there).1;
  },
  λ u. refl,
)

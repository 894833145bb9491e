-- The literals of a clause that inferences use, and the sides from which an equation is used (ordered resolution and
-- superposition with one selected negative literal, Bachmair and Ganzinger).
use Rattle.std.specs.Prelude.{ℕ, ◌≤◌, true, false, List, ◌≡◌, ◌⊎◌, Some, slice_get}
use Rattle.fof_terms.specs.declared.term.Term.{Term}
use Rattle.clause_form.specs.declared.clause.Lit.{Lit}
use Rattle.clause_order.specs.Weights.{lit_weight}
use Rattle.clause_order.specs.Order.{IsGreater, Exceeds}

-- the first of the heaviest negative literals
pub record IsFirstHeaviest (lits : List Lit) (i : ℕ) : Type 0 where
  pub chosen : Lit
  pub here : slice_get lits i ≡ Some chosen
  pub negative : chosen.positive ≡ false
  pub heaviest : (n : ℕ) (k : Lit) → slice_get lits n ≡ Some k → k.positive ≡ false
      → lit_weight k ≤ lit_weight chosen
  pub first : (n : ℕ) (k : Lit) → slice_get lits n ≡ Some k → k.positive ≡ false
      → lit_weight k ≡ lit_weight chosen → i ≤ n

-- a literal that no other exceeds, in a clause with no negative literal (none exceeds itself)
pub record IsUnexceeded (lits : List Lit) (i : ℕ) : Type 0 where
  pub chosen : Lit
  pub here : slice_get lits i ≡ Some chosen
  pub positive : (n : ℕ) (k : Lit) → slice_get lits n ≡ Some k → k.positive ≡ true
  pub unexceeded : (n : ℕ) (k : Lit) → slice_get lits n ≡ Some k → Exceeds k chosen → ⊥

-- the literal at this place is eligible for inferences
abbrev pub IsEligible : List Lit → ℕ → Type 0
IsEligible lits i = IsFirstHeaviest lits i ⊎ IsUnexceeded lits i

-- the first term isn't less than the second: from such a side an equation is used
abbrev pub IsNotLess : Term → Term → Type 0
IsNotLess s t = IsGreater t s → ⊥

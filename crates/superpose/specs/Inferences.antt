-- The five inferences, for any substitution: resolution, superposition, factoring, equality resolution and equality
-- factoring (Bachmair and Ganzinger, Rewrite-based equational theorem proving with selection and simplification). Which
-- literals are eligible, and from which sides an equation is read, is judged before the substitution.
use Rattle.std.specs.Prelude.{ℕ, Bool, List, [], ◌∷◌, ◌++◌, ◌≡◌, ◌≢◌, ◌⊎◌, remove, Some, slice_get, slice_set}
use Rattle.std.specs.List.{Contains}
use Rattle.fof_terms.specs.declared.term.Term.{Term, App}
use Rattle.fof_terms.specs.Vocabulary.{Vocabulary}
use Rattle.clause_form.specs.declared.clause.AtomOf.{AtomOf}
use Rattle.clause_form.specs.declared.clause.AtomOf.TheVariants.{Pred}
use Rattle.clause_form.specs.declared.clause.Lit.{Lit}
use Rattle.clause_form.specs.declared.clause.Clause.{Clause}
use Rattle.clause_form.specs.ClauseView.{stated, denied}
use Rattle.clause_form.specs.Covers.{scope_of}
use Rattle.clause_rules.specs.Places.{lit_term_at, lit_put_at}
use Rattle.clause_rules.specs.Steps.{scope_of_both, apart_from, equation, unequal}
use Rattle.clause_order.specs.Weights.{as_term}
use Rattle.clause_order.specs.Order.{IsGreater}
use Rattle.clause_order.specs.Eligible.{IsEligible}
use Rattle.superpose.specs.Drafts.{Draft, IsMadeBy}

-- Resolution: the eligible literals i and j are a positive and a negative one of the same predicate. Both go.
pub record ResolvesAt (c d : Clause) (i j : ℕ) (f : Draft) : Type 0 where
  pub p : ℕ
  pub ts : List Term
  pub us : List Term
  pub here : slice_get c.lits i ≡ Some (stated (Pred p ts))
  pub there : slice_get (apart_from c d.lits) j ≡ Some (denied (Pred p us))
  pub first : IsEligible c.lits i
  pub second : IsEligible d.lits j
  pub one : f.one ≡ App p ts
  pub other : f.other ≡ App p us
  pub left : f.left ≡ remove c.lits i ++ remove (apart_from c d.lits) j

-- Superposition: the eligible literal i is a positive equation l = r, read from a side that is not less than the other
-- one. At the place in the eligible literal j, a term that is no variable gives way to r. The equation goes.
pub record SuperposesAt (c d : Clause) (i : ℕ) (flipped : Bool) (j : ℕ) (place : List ℕ) (f : Draft) : Type 0 where
  pub l : Term
  pub r : Term
  pub target : Lit
  pub g : ℕ
  pub args : List Term
  pub here : slice_get c.lits i ≡ Some (equation flipped l r)
  pub there : slice_get (apart_from c d.lits) j ≡ Some target
  pub stands : lit_term_at place target ≡ Some (App g args)
  pub first : IsEligible c.lits i
  pub second : IsEligible d.lits j
  pub not_less : IsGreater r l → ⊥
  pub one : f.one ≡ l
  pub other : f.other ≡ App g args
  pub left : f.left ≡ remove c.lits i ++ slice_set (apart_from c d.lits) j (lit_put_at place r target)

-- Factoring: of two positive literals the first is eligible, and the second goes.
pub record FactorsAt (c : Clause) (i j : ℕ) (f : Draft) : Type 0 where
  pub a : AtomOf
  pub b : AtomOf
  pub apart : i ≢ j
  pub here : slice_get c.lits i ≡ Some (stated a)
  pub there : slice_get c.lits j ≡ Some (stated b)
  pub first : IsEligible c.lits i
  pub one : f.one ≡ as_term a
  pub other : f.other ≡ as_term b
  pub left : f.left ≡ remove c.lits j

-- Equality resolution: the eligible literal i is a denied equation, and goes.
pub record ResolvesEquationAt (c : Clause) (i : ℕ) (f : Draft) : Type 0 where
  pub s : Term
  pub t : Term
  pub here : slice_get c.lits i ≡ Some (unequal s t)
  pub first : IsEligible c.lits i
  pub one : f.one ≡ s
  pub other : f.other ≡ t
  pub left : f.left ≡ remove c.lits i

-- Equality factoring: of two positive equations s = t and u = w, each read from either side, the first is eligible. It
-- goes, and t != w comes last.
pub record FactorsEquationsAt (c : Clause) (i : ℕ) (first_flipped : Bool) (j : ℕ) (second_flipped : Bool)
    (f : Draft) : Type 0 where
  pub s : Term
  pub t : Term
  pub u : Term
  pub w : Term
  pub apart : i ≢ j
  pub here : slice_get c.lits i ≡ Some (equation first_flipped s t)
  pub there : slice_get c.lits j ≡ Some (equation second_flipped u w)
  pub first : IsEligible c.lits i
  pub one : f.one ≡ s
  pub other : f.other ≡ u
  pub left : f.left ≡ remove c.lits i ++ unequal t w ∷ []

-- the same at some place
pub record Resolves (c d : Clause) (f : Draft) : Type 0 where
  pub i : ℕ
  pub j : ℕ
  pub at : ResolvesAt c d i j f

pub record Superposes (c d : Clause) (f : Draft) : Type 0 where
  pub i : ℕ
  pub flipped : Bool
  pub j : ℕ
  pub place : List ℕ
  pub at : SuperposesAt c d i flipped j place f

pub record Factors (c : Clause) (f : Draft) : Type 0 where
  pub i : ℕ
  pub j : ℕ
  pub at : FactorsAt c i j f

pub record ResolvesEquation (c : Clause) (f : Draft) : Type 0 where
  pub i : ℕ
  pub at : ResolvesEquationAt c i f

pub record FactorsEquations (c : Clause) (f : Draft) : Type 0 where
  pub i : ℕ
  pub first_flipped : Bool
  pub j : ℕ
  pub second_flipped : Bool
  pub at : FactorsEquationsAt c i first_flipped j second_flipped f

-- the drafts of two clauses, which are kept apart, and of one
abbrev pub IsDraftOfTwo : Clause → Clause → Draft → Type 0
IsDraftOfTwo c d f = Resolves c d f ⊎ Superposes c d f

abbrev pub IsDraftOfOne : Clause → Draft → Type 0
IsDraftOfOne c f = Factors c f ⊎ (ResolvesEquation c f ⊎ FactorsEquations c f)

-- the clause e follows from two clauses, or from one, by an inference with this substitution
abbrev pub InfersFromTwo : Vocabulary → Clause → Clause → Clause → (ℕ → Term) → Type 0
InfersFromTwo v c d e s = (f : Draft) × IsDraftOfTwo c d f × IsMadeBy v (scope_of_both c d) f e s

abbrev pub InfersFromOne : Vocabulary → Clause → Clause → (ℕ → Term) → Type 0
InfersFromOne v c e s = (f : Draft) × IsDraftOfOne c f × IsMadeBy v (scope_of c) f e s

-- the clause follows from members of the list
abbrev pub IsInference : Vocabulary → List Clause → Clause → Type 0
IsInference v list e =
    ((c d : Clause) × (s : ℕ → Term) × Contains list c × Contains list d × InfersFromTwo v c d e s)
    ⊎ ((c : Clause) × (s : ℕ → Term) × Contains list c × InfersFromOne v c e s)

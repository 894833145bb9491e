-- The drafts at some of the places, as the code goes through them.
use Rattle.std.specs.Prelude.{ℕ, Bool, ◌≡◌, ◌<◌, ◌⊎◌, length}
use Rattle.fof_terms.specs.declared.term.Term.{Term}
use Rattle.clause_form.specs.declared.clause.Lit.{Lit}
use Rattle.clause_form.specs.declared.clause.Clause.{Clause}
use Rattle.clause_rules.specs.Steps.{equation}
use Rattle.clause_order.specs.Eligible.{IsNotLess}
use Rattle.superpose.specs.Drafts.{Draft}
use Rattle.superpose.specs.Inferences.{FactorsAt, ResolvesEquationAt, FactorsEquationsAt}

-- equality factoring of two literals, the first read so
abbrev pub FactorsRead : Clause → ℕ → Bool → ℕ → Draft → Type 0
FactorsRead c i flipped j f = (other : Bool) × FactorsEquationsAt c i flipped j other f

-- factoring of two literals, or equality factoring
abbrev pub FactorsPair : Clause → ℕ → ℕ → Draft → Type 0
FactorsPair c i j f = FactorsAt c i j f ⊎ ((flipped : Bool) × FactorsRead c i flipped j f)

-- the same with one of the first n literals as the second
abbrev pub FactorsBelow : Clause → ℕ → ℕ → Draft → Type 0
FactorsBelow c i n f = (j : ℕ) × (j < n) × FactorsPair c i j f

abbrev pub FactorsWithSome : Clause → ℕ → Draft → Type 0
FactorsWithSome c i f = FactorsBelow c i (length c.lits) f

-- the inferences from one clause at an eligible literal
abbrev pub FromLit : Clause → ℕ → Draft → Type 0
FromLit c i f = ResolvesEquationAt c i f ⊎ FactorsWithSome c i f

-- no side of the literal, read so, may be used
abbrev pub NeverUsed : Lit → Bool → Type 0
NeverUsed k flipped = (l r : Term) → k ≡ equation flipped l r → IsNotLess l r → ⊥

abbrev pub IsUsable : Lit → Bool → Type 0
IsUsable k flipped = (l r : Term) → k ≡ equation flipped l r → IsNotLess l r

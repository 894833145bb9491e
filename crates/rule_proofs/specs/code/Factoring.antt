-- Two equations with one side in common.
use Rattle.std.specs.Prelude.{ℕ, ◌≡◌, ◌<◌, Bool, true, false, List, length, Some}
use Rattle.fof_terms.specs.declared.term.Term.{Term, Var}
use Rattle.fof_terms.specs.declared.form.Form.{Form, Eq}
use Rattle.fof_terms.specs.Vocabulary.{Vocabulary}
use Rattle.fof_terms.specs.Lift.{lifted_term}
use Rattle.fof_terms.specs.Sorts.{sort_of_term}
use Rattle.clause_form.specs.declared.clause.Lit.{Lit}
use Rattle.clause_form.specs.ClauseView.{form_of_lit}
use Rattle.clause_form.specs.Covers.{IsCovered}
use Rattle.clause_rules.specs.Steps.{equation, unequal}
use Rattle.kernel.specs.Proves.{Proves}
use Rattle.kernel.specs.declared.proof.Proof.{Proof, Subst}
use Rattle.clause_proofs.specs.Refuting.{theory_of}

abbrev pub pick : Bool → Term → Term → Term
pick true l r = r
pick false l r = l

-- the literals are the equations of `side` with `first` and with `second`, and the line covers what the factoring
-- leaves
pub record IsFactoring (line : List Lit) (pivot other : Lit) (first_flipped second_flipped : Bool) (side first second : Term) : Type 0 where
  pub pivot_is : pivot ≡ equation first_flipped side first
  pub other_is : other ≡ equation second_flipped side second
  pub unequal_covered : IsCovered line (unequal first second)
  pub other_covered : IsCovered line other

-- the side that two equations have in common is left out
abbrev pub IsChained : Vocabulary → List ℕ → Term → Term → Proof → Proof → Proof → Type 0
IsChained w v side first same own made = (s : ℕ) × (sort_of_term w v first ≡ Some s) × (s < length w.sorts) × (made ≡ Subst s (Eq (lifted_term 1 0 side) (Var 0)) same own)

-- the part has the equation as it is written
abbrev pub IsWritten : Vocabulary → List ℕ → Term → Term → Bool → Proof → Proof → Type 0
IsWritten w v l r flipped p made = (formulas h : List Form) → Proves (theory_of w formulas) v h p (Eq l r) → Proves (theory_of w formulas) v h made (form_of_lit (equation flipped l r))

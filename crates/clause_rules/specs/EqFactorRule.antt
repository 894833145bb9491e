-- The rule `eqfactor` (Bachmair and Ganzinger: equality factoring without its order), weakened to 'some substitution
-- exists', with a line that may have more literals.
use Rattle.std.specs.Prelude.{ℕ, Bool, ◌≡◌, ◌≢◌, List, ◌++◌, Some, slice_get, slice_set}
use Rattle.fof_terms.specs.declared.term.Term.{Term}
use Rattle.fof_terms.specs.declared.form.Form.{Form}
use Rattle.fof_terms.specs.Vocabulary.{Vocabulary}
use Rattle.clause_form.specs.declared.path.Parent.{Parent}
use Rattle.clause_form.specs.declared.clause.Lit.{Lit}
use Rattle.clause_form.specs.declared.clause.Clause.{Clause}
use Rattle.clause_form.specs.ClauseView.{clause_of}
use Rattle.clause_form.specs.Covers.{scope_of}
use Rattle.clause_form.specs.Images.{IsImages}
use Rattle.clause_rules.specs.Steps.{IsClauseAt, instances, equation, unequal, AreCovered}

-- In the instance of a clause, two different literals are positive equations s = t and s = w, each read from either
-- side. With t != w in place of the first, all literals are covered by the line.
pub record IsFactored (line lits : List Lit) (i : ℕ) (first_flipped : Bool) (j : ℕ) (second_flipped : Bool) : Type 0 where
  pub side : Term
  pub first : Term
  pub second : Term
  pub apart : i ≢ j
  pub first_there : slice_get lits i ≡ Some (equation first_flipped side first)
  pub second_there : slice_get lits j ≡ Some (equation second_flipped side second)
  pub covered : AreCovered line (slice_set lits i (unequal first second))

-- the line comes from the instance of the clause under this substitution, with what else the line has
pub record Factors (v : Vocabulary) (c line : Clause) (i : ℕ) (first_flipped : Bool) (j : ℕ) (second_flipped : Bool) (more : List ℕ) (s : ℕ → Term) : Type 0 where
  pub images : IsImages v (scope_of c) (scope_of line ++ more) s
  pub factored : IsFactored line.lits (instances s c.lits) i first_flipped j second_flipped

-- the parent of that number is the clause
pub record FactorsAt (v : Vocabulary) (parents : List Parent) (line : Form) (a i : ℕ) (first_flipped : Bool) (j : ℕ) (second_flipped : Bool) (c e : Clause) (more : List ℕ) (s : ℕ → Term) : Type 0 where
  pub line_clause : clause_of line ≡ Some e
  pub parent_clause : IsClauseAt parents a c
  pub factors : Factors v c e i first_flipped j second_flipped more s

abbrev pub IsEqFactorStep : Vocabulary → List Parent → Form → Type 0
IsEqFactorStep v parents line = (a i : ℕ) × (first_flipped : Bool) × (j : ℕ) × (second_flipped : Bool) × (c e : Clause) × (more : List ℕ) × (s : ℕ → Term) × FactorsAt v parents line a i first_flipped j second_flipped c e more s

-- A line that follows from clauses among its parents by an inference (Bachmair and Ganzinger, Rewrite-based equational
-- theorem proving with selection and simplification).
use Rattle.std.specs.Prelude.{ℕ, ◌≡◌, ◌⊎◌, List, Some}
use Rattle.fof_terms.specs.declared.term.Term.{Term}
use Rattle.fof_terms.specs.declared.form.Form.{Form}
use Rattle.fof_terms.specs.Vocabulary.{Vocabulary}
use Rattle.clause_form.specs.declared.path.Parent.{Parent}
use Rattle.clause_form.specs.declared.clause.Clause.{Clause}
use Rattle.clause_form.specs.ClauseView.{clause_of}
use Rattle.clause_form.specs.Covers.{Covers}
use Rattle.clause_rules.specs.EqFactorRule.{IsEqFactorStep}
use Rattle.clause_rules.specs.ParamodulationRule.{IsParamodulationStep}
use Rattle.clause_rules.specs.ResolutionRule.{IsResolutionStep}
use Rattle.clause_rules.specs.Steps.{IsClauseAt}
use Rattle.superpose.specs.Inferences.{InfersFromTwo, InfersFromOne}

-- the line is the conclusion of an inference from two parents, which may be one and the same
pub record IsInferredFromTwo (v : Vocabulary) (parents : List Parent) (line : Form) : Type 0 where
  pub a : ℕ
  pub b : ℕ
  pub first : Clause
  pub second : Clause
  pub conclusion : Clause
  pub images : ℕ → Term
  pub first_clause : IsClauseAt parents a first
  pub second_clause : IsClauseAt parents b second
  pub line_clause : clause_of line ≡ Some conclusion
  pub infers : InfersFromTwo v first second conclusion images

-- the line is the conclusion of an inference from one parent
pub record IsInferredFromOne (v : Vocabulary) (parents : List Parent) (line : Form) : Type 0 where
  pub a : ℕ
  pub premise : Clause
  pub conclusion : Clause
  pub images : ℕ → Term
  pub parent_clause : IsClauseAt parents a premise
  pub line_clause : clause_of line ≡ Some conclusion
  pub infers : InfersFromOne v premise conclusion images

abbrev pub IsInferred : Vocabulary → List Parent → Form → Type 0
IsInferred v parents line = IsInferredFromTwo v parents line ⊎ IsInferredFromOne v parents line

-- one substitution covers by the line all literals of the clause that a parent is
pub record CoversParent (v : Vocabulary) (parents : List Parent) (line : Form) : Type 0 where
  pub a : ℕ
  pub clause : Clause
  pub line_lits : Clause
  pub parent_clause : IsClauseAt parents a clause
  pub line_clause : clause_of line ≡ Some line_lits
  pub covers : Covers v clause line_lits

-- the line follows by resolution, paramodulation or eqfactor, or covers the clause of a parent
abbrev pub IsRuleStep : Vocabulary → List Parent → Form → Type 0
IsRuleStep v parents line =
    IsResolutionStep v parents line ⊎ (IsParamodulationStep v parents line
    ⊎ (IsEqFactorStep v parents line ⊎ CoversParent v parents line))

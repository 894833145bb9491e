-- The rule `resolution` (Bachmair and Ganzinger, Resolution theorem proving, section 2: binary resolution and
-- factoring), weakened to 'some substitution exists', with a line that may have more literals.
use Rattle.std.specs.Prelude.{ℕ, ◌≡◌, List, [], ◌∷◌, ◌++◌, Some, slice_get}
use Rattle.fof_terms.specs.declared.term.Term.{Term}
use Rattle.fof_terms.specs.declared.form.Form.{Form}
use Rattle.fof_terms.specs.Vocabulary.{Vocabulary}
use Rattle.clause_form.specs.declared.path.Parent.{Parent}
use Rattle.clause_form.specs.declared.clause.Lit.{Lit}
use Rattle.clause_form.specs.declared.clause.Clause.{Clause}
use Rattle.clause_form.specs.ClauseView.{clause_of}
use Rattle.clause_form.specs.Covers.{scope_of, AreComplementary}
use Rattle.clause_form.specs.Images.{IsImages}
use Rattle.clause_rules.specs.Steps.{IsClauseAt, scope_of_both, apart_from, instances, AreCovered}

-- In the instances of two clauses, literal i of the left one and literal j of the right one are complementary. Each
-- literal of the left one is literal i up to the sides of an equation, or is covered by the line; each of the
-- right one is literal j, or is covered.
pub record IsResolvent (line left right : List Lit) (i j : ℕ) : Type 0 where
  pub pivot : Lit
  pub opposite : Lit
  pub in_left : slice_get left i ≡ Some pivot
  pub in_right : slice_get right j ≡ Some opposite
  pub complementary : AreComplementary pivot opposite
  pub left_covered : AreCovered (line ++ pivot ∷ []) left
  pub right_covered : AreCovered (line ++ opposite ∷ []) right

-- the line is a resolvent of the instances of two clauses under this substitution, with what else the line has
pub record ResolvesTo (v : Vocabulary) (left right line : Clause) (i j : ℕ) (more : List ℕ) (s : ℕ → Term) : Type 0 where
  pub images : IsImages v (scope_of_both left right) (scope_of line ++ more) s
  pub resolvent : IsResolvent line.lits (instances s left.lits) (instances s (apart_from left right.lits)) i j

-- two parents, of these numbers, are the left and the right clause; one parent may be both
pub record ResolvesAt (v : Vocabulary) (parents : List Parent) (line : Form) (a b i j : ℕ) (left right e : Clause) (more : List ℕ) (s : ℕ → Term) : Type 0 where
  pub line_clause : clause_of line ≡ Some e
  pub left_clause : IsClauseAt parents a left
  pub right_clause : IsClauseAt parents b right
  pub resolves : ResolvesTo v left right e i j more s

abbrev pub IsResolutionStep : Vocabulary → List Parent → Form → Type 0
IsResolutionStep v parents line = (a b i j : ℕ) × (left right e : Clause) × (more : List ℕ) × (s : ℕ → Term) × ResolvesAt v parents line a b i j left right e more s

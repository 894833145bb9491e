-- The rule `paramodulation` (Bachmair and Ganzinger, Rewrite-based equational theorem proving: superposition without
-- its order), weakened to 'some substitution exists', with a line that may have more literals.
use Rattle.std.specs.Prelude.{ℕ, Bool, ◌≡◌, List, ◌++◌, remove, Some, slice_get, slice_set}
use Rattle.fof_terms.specs.declared.term.Term.{Term}
use Rattle.fof_terms.specs.declared.form.Form.{Form}
use Rattle.fof_terms.specs.Vocabulary.{Vocabulary}
use Rattle.clause_form.specs.declared.path.Parent.{Parent}
use Rattle.clause_form.specs.declared.clause.Lit.{Lit}
use Rattle.clause_form.specs.declared.clause.Clause.{Clause}
use Rattle.clause_form.specs.ClauseView.{clause_of}
use Rattle.clause_form.specs.Covers.{scope_of}
use Rattle.clause_form.specs.Images.{IsImages}
use Rattle.clause_rules.specs.Places.{lit_term_at, lit_put_at}
use Rattle.clause_rules.specs.Steps.{IsClauseAt, scope_of_both, apart_from, instances, equation, AreCovered}

-- In the instances of two clauses, literal j of the one is the positive equation l = r, and literal i of the other has
-- l at the place. With r at that one place, literal i is covered by the line, and so are all others of the two.
pub record IsParamodulant (line into from : List Lit) (i : ℕ) (place : List ℕ) (j : ℕ) (flipped : Bool) : Type 0 where
  pub changed : Lit
  pub left : Term
  pub right : Term
  pub in_into : slice_get into i ≡ Some changed
  pub in_from : slice_get from j ≡ Some (equation flipped left right)
  pub stands : lit_term_at place changed ≡ Some left
  pub covered : AreCovered line (slice_set into i (lit_put_at place right changed) ++ remove from j)

-- the place is one of literal i itself, and not inside the image of a variable; a variable may stand there
pub record HasPlace (lits : List Lit) (i : ℕ) (place : List ℕ) : Type 0 where
  pub lit : Lit
  pub term : Term
  pub there : slice_get lits i ≡ Some lit
  pub stands : lit_term_at place lit ≡ Some term

-- the line is a paramodulant of the instances of two clauses under this substitution, with what else the line has
pub record Paramodulates (v : Vocabulary) (into from line : Clause) (i : ℕ) (place : List ℕ) (j : ℕ) (flipped : Bool) (more : List ℕ) (s : ℕ → Term) : Type 0 where
  pub images : IsImages v (scope_of_both into from) (scope_of line ++ more) s
  pub place_of : HasPlace into.lits i place
  pub paramodulant : IsParamodulant line.lits (instances s into.lits) (instances s (apart_from into from.lits)) i place j flipped

-- two parents, of these numbers, are the clauses; one parent may be both
pub record ParamodulatesAt (v : Vocabulary) (parents : List Parent) (line : Form) (a b i : ℕ) (place : List ℕ) (j : ℕ) (flipped : Bool) (into from e : Clause) (more : List ℕ) (s : ℕ → Term) : Type 0 where
  pub line_clause : clause_of line ≡ Some e
  pub into_clause : IsClauseAt parents a into
  pub from_clause : IsClauseAt parents b from
  pub paramodulates : Paramodulates v into from e i place j flipped more s

abbrev pub IsParamodulationStep : Vocabulary → List Parent → Form → Type 0
IsParamodulationStep v parents line = (a b i : ℕ) × (place : List ℕ) × (j : ℕ) × (flipped : Bool) × (into from e : Clause) × (more : List ℕ) × (s : ℕ → Term) × ParamodulatesAt v parents line a b i place j flipped into from e more s

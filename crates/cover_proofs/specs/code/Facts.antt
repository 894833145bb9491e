-- Facts from a parent, wherever they are cited.
use Rattle.std.specs.Prelude.{ℕ, ◌≡◌, ◌≤◌, true, List, [], length, Some, slice_get}
use Rattle.fof_terms.specs.declared.term.Term.{Term}
use Rattle.fof_terms.specs.declared.form.Form.{Form}
use Rattle.fof_terms.specs.Vocabulary.{Vocabulary}
use Rattle.fof_terms.specs.Sorts.{Sorted, IsScope}
use Rattle.kernel.specs.Proves.{Proves}
use Rattle.kernel.specs.Statements.{Statements}
use Rattle.kernel.specs.declared.proof.Proof.{Proof}
use Rattle.clause_form.specs.declared.path.Parent.{Parent}
use Rattle.clause_form.specs.declared.clause.Clause.{Clause}
use Rattle.clause_form.specs.declared.path.Path.{Path}
use Rattle.clause_form.specs.ClauseView.{clause_of, closed}
use Rattle.clause_form.specs.Covers.{scope_of, CoversBy}
use Rattle.clause_form.specs.Norm.{norm_of}
use Rattle.clause_form.specs.Paths.{reached}
use Rattle.clause_form.specs.Sizes.{norm_size_of}
use Rattle.clause_rules.specs.Steps.{IsJoint, images_of_parents}
use Rattle.clause_proofs.specs.declared.opening.Opened.{Opened}
use Rattle.clause_proofs.specs.Bodies.{HasClause}
use Rattle.clause_proofs.specs.Refuting.{theory_of}

-- in this theory the part shows the formula, under any hypotheses and over at most n variables
abbrev pub ShowsUpTo : ℕ → Vocabulary → List Form → Form → Proof → Type 0
ShowsUpTo n w formulas a p = (v : List ℕ) (h : List Form) → IsScope w v → length v ≤ n → Proves (theory_of w formulas) v h p a

-- the same over at most 900,000,000 variables
abbrev pub ShowsAnywhere : Vocabulary → List Form → Form → Proof → Type 0
ShowsAnywhere = ShowsUpTo 900000000

-- the formula is closed and well-sorted, and the part shows it wherever the parent is among the formulas
pub record IsFactUpTo (n : ℕ) (w : Vocabulary) (parent : Parent) (a : Form) (p : Proof) : Type 0 where
  pub sorted : Sorted w [] a
  pub shows : (formulas : List Form) → slice_get formulas parent.number ≡ Some parent.form → ShowsUpTo n w formulas a p

abbrev pub IsFact : Vocabulary → Parent → Form → Proof → Type 0
IsFact = IsFactUpTo 900000000

-- where the parent is among the formulas, the proof shows the line
abbrev pub ShowsByParent : Vocabulary → Parent → Form → Proof → Type 0
ShowsByParent w parent line p = (formulas : List Form) → slice_get formulas parent.number ≡ Some parent.form → Proves (theory_of w formulas) [] [] p line

-- in each theory in which both formulas are well-sorted, where the first part shows the first formula the second part
-- shows the second one
abbrev pub LeadsOn : Form → Form → Proof → Proof → Type 0
LeadsOn a b p q = (t : Statements) → Sorted t.vocabulary [] a → Sorted t.vocabulary [] b → Proves t [] [] p a → Proves t [] [] q b

-- the images show that the line covers what the path reaches in the formula's normal form
pub record CoversIn (w : Vocabulary) (form line : Form) (path : Path) (images : List Term) : Type 0 where
  pub clause : Clause
  pub own : Clause
  pub joint : IsJoint w own (scope_of clause) images
  pub small : norm_size_of form ≤ 100000
  pub reaches : reached path (norm_of true form) ≡ Some clause
  pub line_clause : clause_of line ≡ Some own
  pub covers : CoversBy w (scope_of clause) clause.lits own (scope_of clause) (images_of_parents own images)

-- the closed formula of the clause has it, and is well-sorted
pub record IsClosed (w : Vocabulary) (o : Opened) : Type 0 where
  pub has : HasClause (closed o.clause) o.clause o.is_or
  pub sorted : Sorted w [] (closed o.clause)

-- Instances of the clauses of a theory.
use Rattle.std.specs.Prelude.{ℕ, ◌≡◌, List, length, map, Some, slice_get}
use Rattle.fof_terms.specs.declared.term.Term.{Term}
use Rattle.fof_terms.specs.declared.form.Form.{Form}
use Rattle.fof_terms.specs.Vocabulary.{Vocabulary}
use Rattle.fof_terms.specs.Sorts.{Sorted}
use Rattle.clause_form.specs.Covers.{lit_image, scope_of, AreSorted}
use Rattle.clause_form.specs.Images.{IsImages}
use Rattle.unify_terms.specs.Substitution.{image_at}
use Rattle.kernel.specs.Proves.{Proves}
use Rattle.kernel.specs.declared.proof.Proof.{Proof}
use Rattle.clause_proofs.specs.declared.opening.Opened.{Opened}
use Rattle.clause_proofs.specs.declared.premises.Premise.{Premise}
use Rattle.clause_proofs.specs.Bodies.{HasClause}
use Rattle.clause_proofs.specs.Refuting.{theory_of, ShowsBody}

-- the formula of that number has the clause, and the images are of its variables' sorts over v
pub record IsSource (w : Vocabulary) (v : List ℕ) (formulas : List Form) (number : ℕ) (o : Opened) (images : List Term) : Type 0 where
  pub form : Form
  pub there : slice_get formulas number ≡ Some form
  pub has : HasClause form o.clause o.is_or
  pub form_sorted : Sorted w v form
  pub size : length images ≡ length o.clause.sorts
  pub images_sorted : IsImages w (scope_of o.clause) v (image_at images)
  pub lits_sorted : AreSorted w (scope_of o.clause) o.clause.lits

-- the premise has the images of the clause's literals, and its part shows them where the formula of that number has the
-- clause
pub record IsPremiseOf (number : ℕ) (o : Opened) (images : List Term) (p : Premise) : Type 0 where
  pub is_or : p.is_or ≡ o.is_or
  pub lits : p.lits ≡ map (lit_image (image_at images)) o.clause.lits
  pub shows : (w : Vocabulary) (v : List ℕ) (formulas : List Form) → IsSource w v formulas number o images → ShowsBody w v formulas p.is_or p.lits p.part

-- the part shows a formula that has the clause, and the images are of its variables' sorts over v
pub record IsShown (w : Vocabulary) (v : List ℕ) (formulas : List Form) (own : Proof) (o : Opened) (images : List Term) : Type 0 where
  pub form : Form
  pub shows : (h : List Form) → Proves (theory_of w formulas) v h own form
  pub has : HasClause form o.clause o.is_or
  pub size : length images ≡ length o.clause.sorts
  pub images_sorted : IsImages w (scope_of o.clause) v (image_at images)
  pub lits_sorted : AreSorted w (scope_of o.clause) o.clause.lits

-- the premise has the images of the clause's literals, and its part shows them where the other part shows the clause
pub record IsPremiseBy (own : Proof) (o : Opened) (images : List Term) (p : Premise) : Type 0 where
  pub is_or : p.is_or ≡ o.is_or
  pub lits : p.lits ≡ map (lit_image (image_at images)) o.clause.lits
  pub shows : (w : Vocabulary) (v : List ℕ) (formulas : List Form) → IsShown w v formulas own o images → ShowsBody w v formulas p.is_or p.lits p.part

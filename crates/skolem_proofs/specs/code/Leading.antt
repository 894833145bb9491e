-- From a parent to a line, by what the parent's normal form implies.
use Rattle.std.specs.Prelude.{◌≡◌, true, [], Some, slice_get}
use Rattle.fof_terms.specs.declared.form.Form.{Form, Imp}
use Rattle.fof_terms.specs.Sorts.{Sorted}
use Rattle.clause_form.specs.declared.path.Parent.{Parent}
use Rattle.clause_form.specs.Norm.{norm_of}
use Rattle.kernel.specs.Proves.{Proves}
use Rattle.kernel.specs.Statements.{Statements}
use Rattle.kernel.specs.declared.proof.Proof.{Proof}

-- the proof shows the line in every theory that has the parent at its number, and in which the part shows that the
-- parent's normal form implies the formula, if the line has the formula's normal form
abbrev pub LeadsToLine : Parent → Form → Form → Proof → Proof → Type 0
LeadsToLine parent form line part made =
    (t : Statements) → Sorted t.vocabulary [] parent.form → Sorted t.vocabulary [] form → Sorted t.vocabulary [] line → slice_get t.formulas parent.number ≡ Some parent.form → norm_of true line ≡ norm_of true form
    → Proves t [] [] part (Imp (norm_of true parent.form) form) → Proves t [] [] made line

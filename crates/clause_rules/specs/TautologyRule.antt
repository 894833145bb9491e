-- The rule `tautology`: the line is a clause that is true by its form, that is, with truth, not falsehood, `t = t` or
-- two complementary literals. No parent is needed.
use Rattle.std.specs.Prelude.{◌≡◌, Some}
use Rattle.fof_terms.specs.declared.form.Form.{Form}
use Rattle.clause_form.specs.declared.clause.Clause.{Clause}
use Rattle.clause_form.specs.ClauseView.{clause_of}
use Rattle.clause_form.specs.Covers.{IsTrivial}

abbrev pub IsTautologyStep : Form → Type 0
IsTautologyStep line = (e : Clause) × (clause_of line ≡ Some e) × IsTrivial e.lits

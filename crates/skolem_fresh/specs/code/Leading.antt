-- How many existential quantifiers a formula begins with.
use Rattle.std.specs.Prelude.{ℕ, ◌+◌}
use Rattle.fof_terms.specs.declared.form.Form.{Form, Atom, Eq, Not, And, Or, Imp, Iff, All, Ex}
use Rattle.fof_terms.specs.declared.form.Form.TheFolds.{fold-Form}
use Rattle.fof_terms.specs.declared.form.Form.TheOpen as form

abbrev pub leading_step : form.Form-F ℕ → ℕ
leading_step (form.Atom p ts) = 0
leading_step (form.Eq l r) = 0
leading_step (form.Not a) = 0
leading_step (form.And as_) = 0
leading_step (form.Or as_) = 0
leading_step (form.Imp a b) = 0
leading_step (form.Iff a b) = 0
leading_step (form.All s a) = 0
leading_step (form.Ex s a) = a + 1

unfoldable pub leading : Form → ℕ
leading = fold-Form ℕ leading_step

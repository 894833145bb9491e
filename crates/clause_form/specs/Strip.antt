-- A formula with universal quantifiers in place of existential ones.
use Rattle.fof_terms.specs.declared.form.Form.{Form, Atom, Eq, Not, And, Or, Imp, Iff, All, Ex}
use Rattle.fof_terms.specs.declared.form.Form.TheFolds.{fold-Form}
use Rattle.fof_terms.specs.declared.form.Form.TheOpen as form

abbrev pub strip_step : form.Form-F Form → Form
strip_step (form.Atom p ts) = Atom p ts
strip_step (form.Eq l r) = Eq l r
strip_step (form.Not a) = Not a
strip_step (form.And as_) = And as_
strip_step (form.Or as_) = Or as_
strip_step (form.Imp a b) = Imp a b
strip_step (form.Iff a b) = Iff a b
strip_step (form.All s a) = All s a
strip_step (form.Ex s a) = All s a

-- the formula with every Ex turned into All
unfoldable pub strip_of : Form → Form
strip_of = fold-Form Form strip_step

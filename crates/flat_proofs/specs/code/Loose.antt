-- What is pulled out of a formula, with the bodies of members in nodes that aren't joined.
use Rattle.std.specs.Prelude.{◌∷◌, map}
use Rattle.fof_terms.specs.declared.form.Form.{Form, Atom, Eq, Not, And, Or, Imp, Iff, All, Ex}
use Rattle.fof_terms.specs.declared.form.Form.TheFolds.{fold-Form}
use Rattle.clause_form.specs.ClauseView.{closed_by}
use Rattle.flat_form.specs.Flat.{Pulled, kept, whole_of, sorts_of, bodies_of}
use Rattle.fof_terms.specs.declared.form.Form.TheOpen as form

abbrev pub loose_step : form.Form-F Pulled → Pulled
loose_step (form.Atom p ts) = kept (Atom p ts)
loose_step (form.Eq l r) = kept (Eq l r)
loose_step (form.Not a) = kept (Not a.whole)
loose_step (form.And ps) = record { whole = And (map whole_of ps); sorts = sorts_of ps; body = And (bodies_of 0 ps) }
loose_step (form.Or ps) = record { whole = Or (map whole_of ps); sorts = sorts_of ps; body = Or (bodies_of 0 ps) }
loose_step (form.Imp a b) = kept (Imp a.whole b.whole)
loose_step (form.Iff a b) = kept (Iff a.whole b.whole)
loose_step (form.All s a) = record { whole = All s a.whole; sorts = s ∷ a.sorts; body = a.body }
loose_step (form.Ex s a) = kept (Ex s a.whole)

unfoldable pub loose : Form → Pulled
loose = fold-Form Pulled loose_step

-- the quantifiers over the body
abbrev pub closed_of : Pulled → Form
closed_of p = closed_by p.sorts p.body

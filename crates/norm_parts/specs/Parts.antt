-- The parts of a normal form: the formulas that it is a conjunction of, each under the universal quantifiers around it.
use Rattle.std.specs.Prelude.{List, [], ◌∷◌, map, flat_map}
use Rattle.fof_terms.specs.declared.form.Form.{Form, Atom, Eq, Not, And, Or, Imp, Iff, All, Ex}
use Rattle.fof_terms.specs.declared.form.Form.TheFolds.{fold-Form}
use Rattle.fof_terms.specs.declared.form.Form.TheOpen as form

-- a formula, and its parts
pub record Parted : Type 0 where
  pub whole : Form
  pub parts : List Form

-- the formula is its only part
abbrev pub in_one : Form → Parted
in_one a = record { whole = a; parts = a ∷ [] }

abbrev pub whole_of : Parted → Form
whole_of p = p.whole

abbrev pub own_parts : Parted → List Form
own_parts p = p.parts

abbrev pub parts_step : form.Form-F Parted → Parted
parts_step (form.Atom p ts) = in_one (Atom p ts)
parts_step (form.Eq l r) = in_one (Eq l r)
parts_step (form.Not a) = in_one (Not a.whole)
parts_step (form.And as_) = record { whole = And (map whole_of as_); parts = flat_map own_parts as_ }
parts_step (form.Or as_) = in_one (Or (map whole_of as_))
parts_step (form.Imp a b) = in_one (Imp a.whole b.whole)
parts_step (form.Iff a b) = in_one (Iff a.whole b.whole)
parts_step (form.All s a) = record { whole = All s a.whole; parts = map (All s) a.parts }
parts_step (form.Ex s a) = in_one (Ex s a.whole)

unfoldable pub parted : Form → Parted
parted = fold-Form Parted parts_step

-- of a conjunction the parts of its members in order, of a universal quantifier those of its body, each under the
-- quantifier, and of any other formula itself; so truth has none
abbrev pub parts_of : Form → List Form
parts_of a = (parted a).parts

-- Whether a normal form has existential quantifiers.
use Rattle.std.specs.Prelude.{Bool, true, false}
use Rattle.std.specs.List.{list_any}
use Rattle.fof_terms.specs.declared.form.Form.{Form}
use Rattle.fof_terms.specs.declared.form.Form.TheFolds.{fold-Form}
use Rattle.fof_terms.specs.declared.form.Form.TheOpen as form

abbrev pub existential_step : form.Form-F Bool → Bool
existential_step (form.Atom p ts) = false
existential_step (form.Eq l r) = false
existential_step (form.Not a) = false
existential_step (form.And found) = list_any (λ b. b) found
existential_step (form.Or found) = list_any (λ b. b) found
existential_step (form.Imp a b) = false
existential_step (form.Iff a b) = false
existential_step (form.All s a) = a
existential_step (form.Ex s a) = true

-- an existential quantifier stands in the formula
unfoldable pub has_existential : Form → Bool
has_existential = fold-Form Bool existential_step

-- Whether a variable stands in a formula.
use Rattle.std.specs.Prelude.{ℕ, ◌+◌, ◌==◌, ◌||◌, Bool}
use Rattle.std.specs.List.{list_any}
use Rattle.fof_terms.specs.declared.term.Term.{Term, Var, App}
use Rattle.fof_terms.specs.declared.term.Term.TheFolds.{fold-Term}
use Rattle.fof_terms.specs.declared.form.Form.{Form, Atom, Eq, Not, And, Or, Imp, Iff, All, Ex}
use Rattle.fof_terms.specs.declared.form.Form.TheFolds.{fold-Form}
use Rattle.fof_terms.specs.declared.term.Term.TheOpen as term
use Rattle.fof_terms.specs.declared.form.Form.TheOpen as form

abbrev pub has_in_term_step : ℕ → term.Term-F Bool → Bool
has_in_term_step n (term.Var k) = k == n
has_in_term_step n (term.App f found) = list_any (λ b. b) found

-- the variable stands in the term
unfoldable pub has_in_term : ℕ → Term → Bool
has_in_term n = fold-Term Bool (has_in_term_step n)

abbrev pub has_variable_step : form.Form-F (ℕ → Bool) → ℕ → Bool
has_variable_step (form.Atom p args) n = list_any (has_in_term n) args
has_variable_step (form.Eq l r) n = has_in_term n l || has_in_term n r
has_variable_step (form.Not a) n = a n
has_variable_step (form.And as_) n = list_any (λ a. a n) as_
has_variable_step (form.Or as_) n = list_any (λ a. a n) as_
has_variable_step (form.Imp a b) n = a n || b n
has_variable_step (form.Iff a b) n = a n || b n
has_variable_step (form.All s a) n = a (n + 1)
has_variable_step (form.Ex s a) n = a (n + 1)

-- the variable stands in the formula
unfoldable pub has_variable : ℕ → Form → Bool
has_variable n a = fold-Form (ℕ → Bool) has_variable_step a n

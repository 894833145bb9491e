-- Whether a formula speaks only of some of the variables around it.
use Rattle.std.specs.Prelude.{ℕ, ◌+◌, ◌-◌, ◌||◌, ◌&&◌, nat_lt, Bool, List}
use Rattle.std.specs.List.{list_all}
use Rattle.fof_terms.specs.Standing.{is_listed}
use Rattle.fof_terms.specs.declared.term.Term.{Term, Var, App}
use Rattle.fof_terms.specs.declared.term.Term.TheFolds.{fold-Term}
use Rattle.fof_terms.specs.declared.form.Form.{Form, Atom, Eq, Not, And, Or, Imp, Iff, All, Ex}
use Rattle.fof_terms.specs.declared.form.Form.TheFolds.{fold-Form}
use Rattle.fof_terms.specs.declared.term.Term.TheOpen as term
use Rattle.fof_terms.specs.declared.form.Form.TheOpen as form

abbrev pub only_term_step : List ℕ → ℕ → term.Term-F Bool → Bool
only_term_step xs depth (term.Var k) = nat_lt k depth || is_listed xs (k - depth)
only_term_step xs depth (term.App f each) = list_all (λ b. b) each

-- each variable of the term is one of these, so many quantifiers further out, or that of one of these quantifiers
unfoldable pub only_in_term : List ℕ → ℕ → Term → Bool
only_in_term xs depth = fold-Term Bool (only_term_step xs depth)

abbrev pub only_step : List ℕ → form.Form-F (ℕ → Bool) → ℕ → Bool
only_step xs (form.Atom p args) depth = list_all (only_in_term xs depth) args
only_step xs (form.Eq l r) depth = only_in_term xs depth l && only_in_term xs depth r
only_step xs (form.Not a) depth = a depth
only_step xs (form.And as_) depth = list_all (λ a. a depth) as_
only_step xs (form.Or as_) depth = list_all (λ a. a depth) as_
only_step xs (form.Imp a b) depth = a depth && b depth
only_step xs (form.Iff a b) depth = a depth && b depth
only_step xs (form.All s a) depth = a (depth + 1)
only_step xs (form.Ex s a) depth = a (depth + 1)

-- the same of a formula
unfoldable pub only_has : List ℕ → ℕ → Form → Bool
only_has xs depth a = fold-Form (ℕ → Bool) (only_step xs) a depth

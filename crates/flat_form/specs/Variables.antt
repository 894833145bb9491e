-- The free variables of a formula at each place where they stand, from left to right.
use Rattle.std.specs.Prelude.{ℕ, ◌+◌, ◌-◌, nat_lt, if◌then◌else◌, List, [], ◌∷◌, ◌++◌, flat_map}
use Rattle.fof_terms.specs.declared.term.Term.{Term}
use Rattle.fof_terms.specs.declared.term.Term.TheFolds.{fold-Term}
use Rattle.fof_terms.specs.declared.form.Form.{Form}
use Rattle.fof_terms.specs.declared.form.Form.TheFolds.{fold-Form}
use Rattle.fof_terms.specs.declared.term.Term.TheOpen as term
use Rattle.fof_terms.specs.declared.form.Form.TheOpen as form

abbrev pub variables_term_step : ℕ → term.Term-F (List ℕ) → List ℕ
variables_term_step d (term.Var k) = if nat_lt k d then [] else (k - d) ∷ []
variables_term_step d (term.App f lists) = flat_map (λ ks. ks) lists

-- the free variables of the term, d binders within
unfoldable pub variables_of_term : ℕ → Term → List ℕ
variables_of_term d = fold-Term (List ℕ) (variables_term_step d)

abbrev pub variables_step : form.Form-F (ℕ → List ℕ) → ℕ → List ℕ
variables_step (form.Atom p ts) d = flat_map (variables_of_term d) ts
variables_step (form.Eq l r) d = variables_of_term d l ++ variables_of_term d r
variables_step (form.Not a) d = a d
variables_step (form.And as_) d = flat_map (λ a. a d) as_
variables_step (form.Or as_) d = flat_map (λ a. a d) as_
variables_step (form.Imp a b) d = a d ++ b d
variables_step (form.Iff a b) d = a d ++ b d
variables_step (form.All s a) d = a (d + 1)
variables_step (form.Ex s a) d = a (d + 1)

-- the free variables of the formula, d binders within
unfoldable pub variables_of : ℕ → Form → List ℕ
variables_of d a = fold-Form (ℕ → List ℕ) variables_step a d

-- How many existential quantifiers a formula has, wherever it stands.
use Rattle.std.specs.Prelude.{ℕ, ◌+◌, if◌then◌else◌, sum}
use Rattle.fof_terms.specs.declared.form.Form.{Form}
use Rattle.fof_terms.specs.declared.form.Form.TheFolds.{fold-Form}
use Rattle.clause_form.specs.Sizes.{norm_size_of}
use Rattle.step_clauses.specs.Wide.{is_large}
use Rattle.fof_terms.specs.declared.form.Form.TheOpen as form

abbrev pub some_step : form.Form-F ℕ → ℕ
some_step (form.Atom p ts) = 0
some_step (form.Eq l r) = 0
some_step (form.Not a) = a
some_step (form.And counts) = sum counts
some_step (form.Or counts) = sum counts
some_step (form.Imp a b) = a + b
some_step (form.Iff a b) = a + b
some_step (form.All s a) = a
some_step (form.Ex s a) = 1 + a

unfoldable pub some_count : Form → ℕ
some_count = fold-Form ℕ some_step

-- the norm size of a formula that has a normal form
abbrev pub small_size : Form → ℕ
small_size a = if is_large a then 0 else norm_size_of a

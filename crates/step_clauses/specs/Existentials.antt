-- The existential quantifiers of a closed formula, from the left and an outer one before those inside it.
use Rattle.std.specs.Prelude.{ℕ, List, [], ◌∷◌, ◌++◌, length, map}
use Rattle.fof_terms.specs.declared.form.Form.{Form}
use Rattle.fof_terms.specs.declared.form.Form.TheFolds.{fold-Form}
use Rattle.clause_form.specs.Clauses.{joined_lists}
use Rattle.step_clauses.specs.declared.existentials.Existential.{Existential}
use Rattle.fof_terms.specs.declared.form.Form.TheOpen as form

abbrev pub existentials_step : form.Form-F (List ℕ → List Existential) → List ℕ → List Existential
existentials_step (form.Atom p ts) around = []
existentials_step (form.Eq l r) around = []
existentials_step (form.Not a) around = a around
existentials_step (form.And as_) around = joined_lists (map (λ (a : List ℕ → List Existential). a around) as_)
existentials_step (form.Or as_) around = joined_lists (map (λ (a : List ℕ → List Existential). a around) as_)
existentials_step (form.Imp a b) around = a around ++ b around
existentials_step (form.Iff a b) around = a around ++ b around
existentials_step (form.All s a) around = a (around ++ s ∷ [])
existentials_step (form.Ex s a) around = record { around = around; sort = s } ∷ a around

-- those of a formula that stands under universal quantifiers over these sorts, the outermost first
unfoldable pub existentials_within : Form → List ℕ → List Existential
existentials_within = fold-Form (List ℕ → List Existential) existentials_step

abbrev pub existentials : Form → List Existential
existentials a = existentials_within a []

abbrev pub ex_count : Form → ℕ
ex_count a = length (existentials a)

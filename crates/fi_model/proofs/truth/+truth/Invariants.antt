use Rattle.std.proofs.Common.{◌≡◌, ℕ, List, ◌∷◌, take, true, false}
use Rattle.std.specs.List.{list_all, list_any}
use Rattle.fi_model.specs.Interpretations.{is_true, all_below, some_below}
use Rattle.fi_model.specs.code.Looks.{Agree}
use Rattle.fi_model.specs.code.Scope.{scope_elements}
use Rattle.fi_model.specs.Tables.{interpretation}
use Rattle.fi_model.proofs.truth.+truth.Given as goal

abbrev pub invariant-all_true-loop-form : goal.invariant-all_true-loop-form
invariant-all_true-loop-form l = (there : List ℕ) → Agree l.looked (scope_elements l.scope) there → list_all (is_true (interpretation l.model) there) (take l.form-index l.forms) ≡ true

abbrev pub invariant-some_true-loop-form : goal.invariant-some_true-loop-form
invariant-some_true-loop-form l = (there : List ℕ) → Agree l.looked (scope_elements l.scope) there → list_any (is_true (interpretation l.model) there) (take l.form-index l.forms) ≡ false

abbrev pub invariant-true_of_all-loop-element : goal.invariant-true_of_all-loop-element
invariant-true_of_all-loop-element l = (there : List ℕ) → Agree l.looked (scope_elements l.scope) there → all_below l.element (λ x. is_true (interpretation l.model) (x ∷ there) l.form) ≡ true

abbrev pub invariant-true_of_some-loop-element : goal.invariant-true_of_some-loop-element
invariant-true_of_some-loop-element l = (there : List ℕ) → Agree l.looked (scope_elements l.scope) there → some_below l.element (λ x. is_true (interpretation l.model) (x ∷ there) l.form) ≡ false

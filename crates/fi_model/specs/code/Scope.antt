-- The elements that the variables in reach stand for, that of variable 0 first.
use Rattle.std.specs.Prelude.{ℕ, List, [], ◌∷◌}
use Rattle.fi_model.specs.declared.truth.Scope.{Scope}
use Rattle.fi_model.specs.declared.truth.Scope.TheOpen.{Scope-F, Outside, Under}
use Rattle.fi_model.specs.declared.truth.Scope.TheFolds.{fold-Scope}

abbrev pub scope_step : Scope-F (List ℕ) → List ℕ
scope_step Outside = []
scope_step (Under element outer) = element ∷ outer.now

-- the elements of the variables in reach
unfoldable pub scope_elements : Scope → List ℕ
scope_elements = fold-Scope (List ℕ) scope_step

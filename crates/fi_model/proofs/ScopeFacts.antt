-- Lemmas on what specs/code/Scope defines.
use Rattle.std.specs.Prelude.{ℕ, List, [], ◌∷◌, ◌≡◌}
use Rattle.std.specs.Borrow.{Bor}
use Rattle.fi_model.specs.declared.truth.Scope.{Scope, Outside as outside, Under as under}
use Rattle.fi_model.specs.declared.truth.Scope.TheOpen.{Outside, Under}
use Rattle.fi_model.specs.declared.truth.Scope.TheViews.{roll-Scope}
use Rattle.fi_model.specs.declared.truth.Scope.TheFolds.{fold-roll-Scope}
use denote.Hole.Carrier.{roll}
use Rattle.fi_model.specs.code.Scope.{scope_step, scope_elements}

-- The equations of this word.
pub scope_elements-Outside : scope_elements outside ≡ []
unfolding scope_elements roll-Scope roll
scope_elements-Outside = fold-roll-Scope (List ℕ) scope_step Outside

pub scope_elements-Under : (element : ℕ) (outer : Bor Scope) → scope_elements (under element outer) ≡ element ∷ scope_elements outer.now
unfolding scope_elements roll-Scope roll
scope_elements-Under element outer = fold-roll-Scope (List ℕ) scope_step (Under element outer)

pub ruleset scope_equations = (scope_elements-Outside, scope_elements-Under)

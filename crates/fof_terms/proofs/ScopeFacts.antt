-- Lemmas on what specs/Scope defines.
use Rattle.std.specs.Prelude.{ℕ, List, ◌∷◌, ◌≡◌, reverse}
use Rattle.std.specs.Borrow.{Bor}
use Rattle.fof_terms.specs.declared.sorting.Scope.{Scope, Outside as outside, Under as under}
use Rattle.fof_terms.specs.declared.sorting.Scope.TheOpen.{Scope-F, Outside, Under}
use Rattle.fof_terms.specs.declared.sorting.Scope.TheViews.{roll-Scope}
use Rattle.fof_terms.specs.declared.sorting.Scope.TheFolds.{fold-Scope, fold-roll-Scope}
use denote.Hole.Carrier.{roll}
use Rattle.fof_terms.specs.Scope.{scope_step, scope_sorts}

-- The equations of this word.
pub scope_sorts-Outside : (sorts : Bor (List ℕ)) → scope_sorts (outside sorts) ≡ reverse sorts.now
unfolding scope_sorts roll-Scope roll
scope_sorts-Outside sorts = fold-roll-Scope (List ℕ) scope_step (Outside sorts)

pub scope_sorts-Under : (sort : ℕ) (outer : Bor Scope) → scope_sorts (under sort outer) ≡ sort ∷ scope_sorts outer.now
unfolding scope_sorts roll-Scope roll
scope_sorts-Under sort outer = fold-roll-Scope (List ℕ) scope_step (Under sort outer)

pub ruleset scope_equations = (scope_sorts-Outside, scope_sorts-Under)

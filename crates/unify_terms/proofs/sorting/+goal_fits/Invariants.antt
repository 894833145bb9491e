use Rattle.std.proofs.Common.{◌≡◌, take, true}
use Rattle.std.specs.List.{list_all}
use Rattle.fof_terms.specs.Scope.{scope_sorts}
use Rattle.unify_terms.specs.Goals.{goal_sorted}
use Rattle.unify_terms.proofs.sorting.+goal_fits.Given as goal

abbrev pub invariant-goals_fit-loop-goal : goal.invariant-goals_fit-loop-goal
invariant-goals_fit-loop-goal l = list_all (goal_sorted l.signature (scope_sorts l.reach)) (take l.goal-index l.goals) ≡ true

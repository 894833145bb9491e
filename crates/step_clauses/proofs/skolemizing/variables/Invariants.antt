use Rattle.std.proofs.Common.{◌≡◌, ◌++◌, ◌≤◌, map}
use Rattle.fof_terms.specs.Lift.{lifted_term}
use Rattle.clause_form.specs.Clauses.{variables}
use Rattle.step_clauses.proofs.skolemizing.variables.Given as goal

abbrev pub invariant-loop-left : goal.invariant-loop-left
invariant-loop-left l = (l.left ≤ l.count) × (map (lifted_term l.further 0) (variables l.count) ≡ l.made ++ map (lifted_term l.further 0) (variables l.left))

abbrev pub decreases-loop-left : goal.decreases-loop-left
decreases-loop-left l = l.left

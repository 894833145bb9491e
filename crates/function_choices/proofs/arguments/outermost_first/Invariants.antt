use Rattle.std.proofs.Common.{◌≡◌, ◌++◌}
use Rattle.step_clauses.specs.Skolems.{nearest}
use Rattle.function_choices.proofs.arguments.outermost_first.Given as goal

abbrev pub invariant-loop-left : goal.invariant-loop-left
invariant-loop-left l = l.made ++ nearest l.left ≡ nearest l.count

abbrev pub decreases-loop-left : goal.decreases-loop-left
decreases-loop-left l = l.left

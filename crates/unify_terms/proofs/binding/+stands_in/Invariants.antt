use Rattle.std.proofs.Common.{◌≤◌, ◌+◌, ◌*◌}
use Rattle.unify_terms.proofs.binding.+stands_in.Given as goal

abbrev pub invariant-stands_in_one-loop-term : goal.invariant-stands_in_one-loop-term
invariant-stands_in_one-loop-term l = l.steps ≤ l.fn.steps

abbrev pub decreases-stands_in : goal.decreases-stands_in
decreases-stands_in l = 2 * l.steps.now

abbrev pub decreases-stands_in_one : goal.decreases-stands_in_one
decreases-stands_in_one l = 2 * l.steps.now + 1

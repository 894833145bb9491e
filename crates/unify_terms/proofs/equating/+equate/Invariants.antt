use Rattle.std.proofs.Common.{◌≤◌, ◌+◌, ◌*◌}
use Rattle.unify_terms.specs.code.Binding.{AllSame, AreBound, Adds}
use Rattle.unify_terms.proofs.equating.+equate.Given as goal

abbrev pub invariant-equate_all-loop-at : goal.invariant-equate_all-loop-at
invariant-equate_all-loop-at l = record {
  fewer : l.steps ≤ l.fn.steps;
  are : AreBound l.signature l.scope.sorts l.scope.rigid l.bound.items;
  adds : Adds l.fn.bound.items l.bound.items (AllSame l.at l.left l.right);
}

abbrev pub decreases-equate : goal.decreases-equate
decreases-equate l = 2 * l.steps.now

abbrev pub decreases-equate_all : goal.decreases-equate_all
decreases-equate_all l = 2 * l.steps.now + 1

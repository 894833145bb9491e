use Rattle.std.proofs.Common.{◌≡◌, ◌+◌, length}
use Rattle.sort_check.proofs.Loops.{Turns}
use Rattle.sort_check.specs.Denotation.{bound_variable}
use Rattle.sort_check.specs.code.Denotation.{state}
use Rattle.sort_check.proofs.binding.bound_variables.Given as goal

abbrev pub invariant-loop-variable : goal.invariant-loop-variable
invariant-loop-variable l = record {
  turns : Turns (λ place. bound_variable) l.variables (state l.signature l.initial.scope) l.found l.variable-index (state l.signature l.scope);
  kept : l.scope ≡ record l.initial.scope { bound = l.scope.bound };
  count : l.scope.bound ≡ l.initial.scope.bound + length l.found;
}

use Rattle.fof_terms.specs.Scope.{scope_sorts}
use Rattle.norm_parts.specs.code.Instances.{IsNext}
use Rattle.norm_parts.proofs.instances.instances.Given as goal

abbrev pub invariant-loop-term : goal.invariant-loop-term
invariant-loop-term l = IsNext l.signature (scope_sorts l.scope) l.fn.shown l.made

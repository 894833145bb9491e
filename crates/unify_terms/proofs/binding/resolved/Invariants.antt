use Rattle.unify_terms.specs.code.Binding.{IsResolved}
use Rattle.unify_terms.proofs.binding.resolved.Given as goal

abbrev pub invariant-loop : goal.invariant-loop
invariant-loop l = IsResolved l.bound l.fn.term l.last

use Rattle.clause_rules.specs.Steps.{scope_of_both}
use Rattle.std.specs.Prelude.{ℕ}
use Rattle.superpose.specs.Inferences.{ResolvesAt}
use Rattle.superpose.specs.Made.{Adds}
use Rattle.superpose.proofs.Below.{OfFirst}
use Rattle.superpose.proofs.two_clauses.add_resolved_with.Given as goal

abbrev pub invariant-loop-at : goal.invariant-loop-at
invariant-loop-at l = Adds l.sig (scope_of_both l.c l.d) (OfFirst ℕ (λ j. ResolvesAt l.c l.d l.fn.i j) l.seconds l.at) l.fn.made l.made

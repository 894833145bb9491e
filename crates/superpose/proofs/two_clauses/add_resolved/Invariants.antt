use Rattle.clause_rules.specs.Steps.{scope_of_both}
use Rattle.std.specs.Prelude.{ℕ}
use Rattle.superpose.specs.Made.{Adds}
use Rattle.superpose.specs.code.Listed.{ResolvesWith}
use Rattle.superpose.proofs.Below.{OfFirst}
use Rattle.superpose.proofs.two_clauses.add_resolved.Given as goal

abbrev pub invariant-loop-at : goal.invariant-loop-at
invariant-loop-at l = Adds l.sig (scope_of_both l.c l.d) (OfFirst ℕ (ResolvesWith l.c l.d l.seconds) l.firsts l.at) l.fn.made l.made

use Rattle.clause_rules.specs.Steps.{scope_of_both}
use Rattle.superpose.specs.declared.used.Side.{Side}
use Rattle.superpose.specs.Made.{Adds}
use Rattle.superpose.specs.code.Listed.{SuperposesFrom}
use Rattle.superpose.proofs.Below.{OfFirst}
use Rattle.superpose.proofs.two_clauses.add_superposed.Given as goal

abbrev pub invariant-loop-at : goal.invariant-loop-at
invariant-loop-at l = Adds l.sig (scope_of_both l.c l.d) (OfFirst Side (SuperposesFrom l.c l.d l.spots) l.sides l.at) l.fn.made l.made

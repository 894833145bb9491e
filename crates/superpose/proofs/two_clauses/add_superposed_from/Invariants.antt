use Rattle.clause_rules.specs.Steps.{scope_of_both}
use Rattle.superpose.specs.declared.used.Spot.{Spot}
use Rattle.superpose.specs.Inferences.{SuperposesAt}
use Rattle.superpose.specs.Made.{Adds}
use Rattle.superpose.proofs.Below.{OfFirst}
use Rattle.superpose.proofs.two_clauses.add_superposed_from.Given as goal

abbrev pub invariant-loop-at : goal.invariant-loop-at
invariant-loop-at l = Adds l.sig (scope_of_both l.c l.d) (OfFirst Spot (λ (spot : Spot). SuperposesAt l.c l.d l.fn.side.lit l.fn.side.flipped spot.lit spot.place) l.spots l.at) l.fn.made l.made

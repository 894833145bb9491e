use Rattle.superpose.specs.declared.used.Spot.{Spot}
use Rattle.superpose.specs.code.Uses.{Gains}
use Rattle.superpose.proofs.UseFacts.{IsSpotBelow}
use Rattle.superpose.proofs.used.add_spots.Given as goal

abbrev pub invariant-loop-at : goal.invariant-loop-at
invariant-loop-at l = Gains Spot (IsSpotBelow l.lit l.fn.i l.places l.at) l.fn.spots l.spots

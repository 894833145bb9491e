use Rattle.std.proofs.Common.{take}
use Rattle.saturation.specs.code.Marked.{AreAsked}
use Rattle.saturation.specs.code.Offers.{spot_offers}
use Rattle.saturation.proofs.asking.ask_spots.Given as goal

abbrev pub invariant-loop-spot : goal.invariant-loop-spot
invariant-loop-spot g l = AreAsked (g.I.Partners.is_whole l.index) (g.I.Partners.entries l.index) l.positive (spot_offers l.lits (take l.spot-index l.spots)) l.initial.marks l.marks

use Rattle.std.proofs.Common.{◌≡◌, ◌++◌, take, true}
use Rattle.saturation.specs.code.Entered.{entries_of}
use Rattle.saturation.specs.code.Offers.{spot_offers}
use Rattle.saturation.proofs.entering.enter_spots.Given as goal

abbrev pub invariant-loop-spot : goal.invariant-loop-spot
invariant-loop-spot g l = record {
  whole : g.I.Partners.is_whole l.index ≡ g.I.Partners.is_whole l.initial.index;
  entered : g.I.Partners.is_whole l.initial.index ≡ true
      → g.I.Partners.entries l.index ≡ g.I.Partners.entries l.initial.index ++ entries_of l.place (spot_offers l.lits (take l.spot-index l.spots));
}

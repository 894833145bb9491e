use Rattle.std.proofs.Common.{◌∙◌, option_to_list, take, ◌+◌}
use Rattle.saturation.specs.code.Offers.{spot_at, spot_offers}
use Rattle.saturation.proofs.Feeding.{offers_more, filed_then}
use Rattle.saturation.proofs.entering.enter_spots.Goals as goal

pub loop-spot-preserved : goal.loop-spot-preserved
loop-spot-preserved g c =
    let lits = c.args.lits.now in
    let i = c.loop-spot.spot-index in
    record {
      whole = c.enter_spot.ensures.whole ∙ c.loop-spot.invariant.whole;
      entered = λ is.
          filed_then c.args.place (g.I.Partners.entries c.args.index.now) (g.I.Partners.entries c.loop-spot.index) (g.I.Partners.entries c.enter_spot.new.index)
          (spot_offers lits (take i c.args.spots.now)) (option_to_list (spot_at lits c.spot-item.result)) (spot_offers lits (take (i + 1) c.args.spots.now))
          (offers_more (spot_at lits) c.args.spots.now i c.spot-item.result c.loop-spot-test.true c.spot-item.is) (c.loop-spot.invariant.entered is)
          (c.in_ok-enter_spot.ensures.entered (c.loop-spot.invariant.whole ∙ is));
    }

use Rattle.std.proofs.Common.{option_to_list, take, ◌+◌}
use Rattle.saturation.specs.code.Offers.{spot_at, spot_offers}
use Rattle.saturation.proofs.Feeding.{offers_more, asked_then}
use Rattle.saturation.proofs.asking.ask_spots.Goals as goal

pub loop-spot-preserved : goal.loop-spot-preserved
loop-spot-preserved g c =
    let lits = c.args.lits.now in
    let i = c.loop-spot.spot-index in
    asked_then (g.I.Partners.is_whole c.args.index.now) (g.I.Partners.entries c.args.index.now) c.args.positive (spot_offers lits (take i c.args.spots.now)) (option_to_list (spot_at lits c.spot-item.result))
    (spot_offers lits (take (i + 1) c.args.spots.now)) c.args.marks.now c.loop-spot.marks c.ask_spot.new.marks (offers_more (spot_at lits) c.args.spots.now i c.spot-item.result c.loop-spot-test.true c.spot-item.is)
    c.loop-spot.invariant c.in_ok-ask_spot.ensures

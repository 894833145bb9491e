use Rattle.std.proofs.Common.{arith, sym, ap, ◌∙◌, Some}
use Rattle.clause_rules.proofs.Firsts.{there_at}
use Rattle.superpose.proofs.UseFacts.{spots_next, spots_all}
use Rattle.superpose.proofs.used.add_spots.Goals as goal

pub loop-at-preserved : goal.loop-at-preserved
loop-at-preserved c =
    spots_next c.args.lit.now c.args.i c.as_slice-places.result.now c.loop-at.at c.as_slice.result.now c.args.spots.now c.loop-at.spots c.add_spot.new.spots
    (there_at c.as_slice-places.result.now c.loop-at.at c.index-places-at.result c.loop-at-test.true c.index-places-at.is ∙ ap Some (sym c.as_slice.ensures)) c.loop-at.invariant c.in_ok-add_spot.ensures

pub returns : goal.returns
returns c =
    let end = c.loop-at-test.false in
    spots_all c.args.lit.now c.args.i c.as_slice-places.result.now c.loop-at.at c.args.spots.now c.loop-at.spots (c.as_slice-places.ensures ∙ c.in_ok-places.ensures) (omega arith) c.loop-at.invariant

use Rattle.std.proofs.Common.{◌∙◌, option_to_list, get_or, take, ◌+◌, false}
use Rattle.superpose.specs.declared.used.Side.{Side}
use Rattle.saturation.specs.code.Offers.{side_at, side_offers}
use Rattle.saturation.proofs.Feeding.{offers_at, filed_then}
use Rattle.saturation.proofs.entering.enter_sides.Goals as goal

abbrev some : Side
some = record { lit = 0; flipped = false }

pub loop-side-preserved : goal.loop-side-preserved
loop-side-preserved g c =
    let lits = c.args.lits.now in
    let i = c.loop-side.side-index in
    record {
      whole = c.enter_side.ensures.whole ∙ c.loop-side.invariant.whole;
      entered = λ is.
          filed_then c.args.place (g.I.Partners.entries c.args.index.now) (g.I.Partners.entries c.loop-side.index) (g.I.Partners.entries c.enter_side.new.index)
          (side_offers lits (take i c.args.sides.now)) (option_to_list (side_at lits (get_or c.args.sides.now i some))) (side_offers lits (take (i + 1) c.args.sides.now))
          (offers_at (side_at lits) c.args.sides.now i some c.loop-side-test.true) (c.loop-side.invariant.entered is)
          (c.in_ok-enter_side.ensures.entered (c.loop-side.invariant.whole ∙ is));
    }

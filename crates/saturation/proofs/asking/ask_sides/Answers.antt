use Rattle.std.proofs.Common.{option_to_list, get_or, take, ◌+◌, false}
use Rattle.superpose.specs.declared.used.Side.{Side}
use Rattle.saturation.specs.code.Offers.{side_at, side_offers}
use Rattle.saturation.proofs.Feeding.{offers_at, asked_then}
use Rattle.saturation.proofs.asking.ask_sides.Goals as goal

abbrev some : Side
some = record { lit = 0; flipped = false }

pub loop-side-preserved : goal.loop-side-preserved
loop-side-preserved g c =
    let lits = c.args.lits.now in
    let i = c.loop-side.side-index in
    asked_then (g.I.Partners.is_whole c.args.index.now) (g.I.Partners.entries c.args.index.now) c.args.positive (side_offers lits (take i c.args.sides.now)) (option_to_list (side_at lits (get_or c.args.sides.now i some)))
    (side_offers lits (take (i + 1) c.args.sides.now)) c.args.marks.now c.loop-side.marks c.ask_side.new.marks (offers_at (side_at lits) c.args.sides.now i some c.loop-side-test.true)
    c.loop-side.invariant c.in_ok-ask_side.ensures

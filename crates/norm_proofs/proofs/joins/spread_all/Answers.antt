use Rattle.std.proofs.Common.{arith}
use Rattle.norm_proofs.proofs.Places.{at_index}
use Rattle.norm_proofs.proofs.Gathered.{spread_next, few_there}
use Rattle.norm_proofs.proofs.joins.spread_all.Goals as goal

pub spread-requires : goal.spread-requires
spread-requires c =
    let at = at_index c.args.whole.now c.loop-number.number c.index-whole-number.result c.loop-number-test.true c.index-whole-number.is in
    omega (arith, few_there c.args.kind c.args.whole.now c.loop-number.number c.index-whole-number.result at, c.requires.small)

pub loop-number-preserved : goal.loop-number-preserved
loop-number-preserved c =
    let at = at_index c.args.whole.now c.loop-number.number c.index-whole-number.result c.loop-number-test.true c.index-whole-number.is in
    rw c.in_ok-append.ensures
    (spread_next c.args.kind c.args.whole.now c.loop-number.number c.index-whole-number.result c.loop-number.made c.in_ok-pieces.pieces at c.loop-number.invariant (c.in_ok-pieces.ensures at))

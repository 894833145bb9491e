use Rattle.std.proofs.Common.{arith, refl}
use Rattle.norm_proofs.proofs.Places.{at_index}
use Rattle.norm_proofs.proofs.Gathered.{gather_next, start_next, start_room}
use Rattle.norm_proofs.proofs.joins.gather_all.Goals as goal

pub gather-requires : goal.gather-requires
gather-requires c =
    let at = at_index c.args.whole.now c.loop-number.number c.index-whole-number.result c.loop-number-test.true c.index-whole-number.is in
    omega (arith, start_room c.args.kind c.args.whole.now c.args.flat.now c.loop-number.number c.loop-number.start c.index-whole-number.result at c.requires.joined c.loop-number.invariant.0, c.requires.small)

pub overflow_add-start : goal.overflow_add-start
overflow_add-start c =
    let at = at_index c.args.whole.now c.loop-number.number c.index-whole-number-in-loop-number.result c.loop-number-test.true c.index-whole-number-in-loop-number.is in
    omega (arith, start_room c.args.kind c.args.whole.now c.args.flat.now c.loop-number.number c.loop-number.start c.index-whole-number-in-loop-number.result at c.requires.joined c.loop-number.invariant.0, c.requires.small, c.member_count-start.ensures)

pub loop-number-preserved : goal.loop-number-preserved
loop-number-preserved c =
    let at = at_index c.args.whole.now c.loop-number.number c.index-whole-number.result c.loop-number-test.true c.index-whole-number.is in
    let again = at_index c.args.whole.now c.loop-number.number c.index-whole-number-in-loop-number.result c.loop-number-test.true c.index-whole-number-in-loop-number.is in (
      start_next c.args.kind c.args.whole.now c.args.flat.now c.loop-number.number c.loop-number.start c.index-whole-number-in-loop-number.result again c.requires.joined c.loop-number.invariant.0 c.member_count-start.result _ c.member_count-start.ensures refl,
      rw (c.in_ok-push.ensures.ok, c.into_inner.ensures)
          (gather_next c.args.kind c.args.whole.now c.args.flat.now c.loop-number.number c.loop-number.start c.index-whole-number.result at c.requires.joined c.loop-number.invariant.0 c.loop-number.made c.in_ok-piece.piece c.loop-number.invariant.1 c.in_ok-piece.ensures),
    )

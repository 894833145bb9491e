use Rattle.std.proofs.Common.{refl, arith}
use Rattle.flat_proofs.proofs.Arms.{inhabited_start, inhabited_next, inhabited_end}
use Rattle.flat_proofs.proofs.gathering.inhabited.Goals as goal

pub loop-done-init : goal.loop-done-init
loop-done-init c = inhabited_start c.args.sorts.now c.args.form.now c.args.part 0 refl

pub lift-requires : goal.lift-requires
lift-requires c = c.requires.room _ (omega (arith, c.loop-done-test.true))

pub loop-done-preserved : goal.loop-done-preserved
loop-done-preserved c = inhabited_next c.args.sorts.now c.args.form.now c.args.part c.loop-done.done _ _ c.in_ok-goal.goal c.loop-done.made c.in_ok-made.made c.loop-done-test.true refl refl c.in_ok-goal.ensures c.in_ok-made.ensures c.loop-done.invariant

pub returns : goal.returns
returns c = inhabited_end c.args.sorts.now c.args.form.now c.args.part c.loop-done.done c.loop-done.made c.loop-done-test.false c.loop-done.invariant

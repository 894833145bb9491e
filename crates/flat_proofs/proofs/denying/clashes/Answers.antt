use Rattle.std.proofs.Common.{◌∙◌, refl}
use Rattle.flat_proofs.proofs.Arms.{clash_next, clash_end}
use Rattle.flat_proofs.proofs.MemberFacts.{carried}
use Rattle.flat_proofs.proofs.denying.clashes.Goals as goal

pub loop-done-preserved : goal.loop-done-preserved
loop-done-preserved c =
    carried _ _ _ _ c.in_ok-push.ensures.ok
    (clash_next c.args.count c.loop-done.done c.loop-done.made _ _ c.in_ok-denied.denied c.in_ok-hyp.field-0 c.into_inner.result c.loop-done-test.true refl c.in_ok-denied.ensures c.in_ok-hyp.ensures (c.into_inner.ensures ∙ c.in_ok-clash.ensures) c.loop-done.invariant)

pub returns : goal.returns
returns c = clash_end c.args.count c.loop-done.done c.loop-done.made _ c.loop-done-test.false c.loop-done.invariant

use Rattle.std.proofs.Common.{refl, subst}
use Rattle.std.proofs.lemmas.List.{take_all}
use Rattle.negated_lemmas.proofs.InTurn.{BegunWith, begun, begun_at, whole_refutation}
use Rattle.negated_lemmas.proofs.lemmas.lemmas_of_refutation.Goals as goal

pub loop-proof-init : goal.loop-proof-init
loop-proof-init c = begun c.args.line.now c.args.first c.push.new.self (rw (c.in_ok-push.ensures.ok, c.new-entries.ensures, c.into_inner.ensures, c.in_ok-itself.ensures) refl)

pub loop-proof-preserved : goal.loop-proof-preserved
loop-proof-preserved c =
    begun_at c.args.line.now c.args.first c.args.proofs.now c.loop-proof.proof-index c.loop-proof.entries c.push-in-loop-proof.new.self c.proof-item.result c.in_ok-lemma.lemma c.loop-proof-test.true c.proof-item.is c.loop-proof.invariant c.in_ok-lemma.ensures
    (rw (c.in_ok-push-2.ensures.ok, c.into_inner-in-loop-proof.ensures) refl)

pub returns : goal.returns
returns c =
    let all = subst (λ ps. BegunWith c.args.line.now c.args.first ps c.loop-proof.entries) (take_all c.loop-proof.proof-index c.args.proofs.now c.loop-proof-test.false) c.loop-proof.invariant in
    whole_refutation c.args.line.now c.args.first c.args.proofs.now c.in_ok-last.last c.loop-proof.entries c.push-2.new.self all c.in_ok-last.ensures (rw (c.in_ok-push-3.ensures.ok, c.into_inner-2.ensures) refl)

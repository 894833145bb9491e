use Rattle.std.proofs.Common.{◌∙◌, ◌+◌, ap, ℕ}
use Rattle.kernel.specs.declared.proof.Proof.{Proof, Hyp}
use Rattle.norm_proofs.specs.code.Alongside.{chosen}
use Rattle.norm_proofs.proofs.Gathered.{numbered_after}
use Rattle.norm_proofs.proofs.widening.each_chosen.Goals as goal

pub loop-place-preserved : goal.loop-place-preserved
loop-place-preserved c =
    c.in_ok-push.ensures.ok ∙ numbered_after (λ (j : ℕ). chosen c.args.members.now j (Hyp 0)) c.args.start c.loop-place.place c.loop-place.made c.into_inner.result c.loop-place.invariant
    (c.into_inner.ensures ∙ c.in_ok-arm.ensures ∙ ap (λ (p : Proof). chosen c.args.members.now (c.args.start + c.loop-place.place) p) c.in_ok-own.ensures)

use Rattle.std.proofs.Common.{◌∙◌, ◌+◌, ap, ℕ}
use Rattle.kernel.specs.declared.proof.Proof.{Hyp, AndE}
use Rattle.norm_proofs.proofs.Gathered.{numbered_after}
use Rattle.flat_proofs.proofs.halving.picks.Goals as goal

pub loop-place-preserved : goal.loop-place-preserved
loop-place-preserved c =
    c.in_ok-push.ensures.ok
    ∙ numbered_after (λ (j : ℕ). AndE j (Hyp c.args.hypothesis)) c.args.first c.loop-place.place c.loop-place.made c.into_inner.result c.loop-place.invariant
    (c.into_inner.ensures ∙ (c.in_ok-member.ensures ∙ ap (AndE (c.args.first + c.loop-place.place)) c.in_ok-own.ensures))

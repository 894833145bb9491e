use Rattle.std.proofs.Common.{ap, ◌∙◌, ◌≡◌, ℕ, arith}
use Rattle.kernel.specs.declared.proof.Proof.{Proof, Hyp, AndI, AndE}
use Rattle.norm_proofs.specs.code.Joining.{numbered}
use Rattle.norm_proofs.proofs.Gathered.{numbered_after}
use Rattle.derive_kit.proofs.Built.{ok_map}
use Rattle.norm_parts.proofs.joining.picked.Goals as goal

pub loop-at-preserved : goal.loop-at-preserved
loop-at-preserved c =
    c.in_ok-push.ensures.ok
    ∙ numbered_after (λ (n : ℕ). AndE n (Hyp 0)) c.args.first c.loop-at.at c.loop-at.proofs c.into_inner.result c.loop-at.invariant
    (c.into_inner.ensures ∙ c.in_ok-one.ensures ∙ ap (λ (p : Proof). AndE c.in_ok-number_after.field-0 p) c.in_ok-own.ensures ∙ ap (λ (n : ℕ). AndE n (Hyp 0)) c.in_ok-number_after.ensures)

pub returns : goal.returns
returns c =
    let all : c.loop-at.at ≡ c.args.count = omega arith in
    ok_map c.and_i.result (λ made e. e ∙ ap AndI (c.loop-at.invariant ∙ ap (numbered (λ (n : ℕ). AndE n (Hyp 0)) c.args.first) all)) c.and_i.ensures

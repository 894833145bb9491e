use Rattle.std.proofs.Common.{ℕ, ap, ◌∙◌}
use Rattle.kernel.specs.declared.proof.Proof.{Proof, AndE, Hyp}
use Rattle.sat_entries.specs.code.Inputs.{clash_tree}
use Rattle.sat_entries.proofs.InputFacts.{one_arm_more}
use Rattle.sat_entries.proofs.inputs.arms.Goals as goal

pub loop-at-preserved : goal.loop-at-preserved
loop-at-preserved c =
    let l = c.index-lits-at.result in
    let other = c.in_ok-other.ensures ∙ (ap (λ (n : ℕ). AndE n c.in_ok-hyp.field-0) c.in_ok-number.ensures ∙ ap (λ (q : Proof). AndE c.loop-at.at q) c.in_ok-hyp.ensures) in
    let tree = c.into_inner.ensures ∙ (c.in_ok-clash.ensures ∙ (ap (λ (q : Proof). clash_tree l q c.in_ok-other.other) c.in_ok-own.ensures ∙ ap (λ (q : Proof). clash_tree l (Hyp 0) q) other)) in
    one_arm_more c.args.lits.now c.loop-at.at l c.loop-at.made c.push.new.self c.into_inner.result c.loop-at-test.true c.index-lits-at.is c.loop-at.invariant tree c.in_ok-push.ensures.ok

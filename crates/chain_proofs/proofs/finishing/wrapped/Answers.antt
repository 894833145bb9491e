use Rattle.std.proofs.Common.{ap, sym, ◌∙◌, List}
use Rattle.kernel.specs.declared.proof.Proof.{Proof, ImpE}
use Rattle.chain_proofs.specs.code.Steps.{wrapped}
use Rattle.chain_proofs.specs.declared.stretching.Step.{Step}
use Rattle.chain_proofs.proofs.Stepping.{wrapped_more}
use Rattle.chain_proofs.proofs.finishing.wrapped.Goals as goal

pub loop-step-preserved : goal.loop-step-preserved
loop-step-preserved c =
    ap (wrapped c.pop.new.self) (c.in_ok-made.ensures ∙ ap (λ (p : Proof). ImpE p c.in-Some.step.part) c.in_ok-under.ensures)
    ∙ (sym (wrapped_more c.pop.new.self c.in-Some.step c.loop-step.made) ∙ (ap (λ (ss : List Step). wrapped ss c.loop-step.made) (sym c.in-Some.ensures) ∙ c.loop-step.invariant))

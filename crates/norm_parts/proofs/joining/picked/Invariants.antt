use Rattle.std.proofs.Common.{◌≡◌}
use Rattle.kernel.specs.declared.proof.Proof.{Hyp, AndE}
use Rattle.norm_proofs.specs.code.Joining.{numbered}
use Rattle.norm_parts.proofs.joining.picked.Given as goal

abbrev pub invariant-loop-at : goal.invariant-loop-at
invariant-loop-at l = l.proofs ≡ numbered (λ number. AndE number (Hyp 0)) l.first l.at

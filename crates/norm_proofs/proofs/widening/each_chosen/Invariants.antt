use Rattle.std.proofs.Common.{◌≡◌}
use Rattle.kernel.specs.declared.proof.Proof.{Hyp}
use Rattle.norm_proofs.specs.code.Joining.{numbered}
use Rattle.norm_proofs.specs.code.Alongside.{chosen}
use Rattle.norm_proofs.proofs.widening.each_chosen.Given as goal

abbrev pub invariant-loop-place : goal.invariant-loop-place
invariant-loop-place l = l.made ≡ numbered (λ j. chosen l.members j (Hyp 0)) l.start l.place

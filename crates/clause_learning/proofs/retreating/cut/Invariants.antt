use Rattle.clause_learning.proofs.Cutting.{IsScanning}
use Rattle.clause_learning.proofs.retreating.cut.Given as goal

abbrev pub invariant-steps : goal.invariant-steps
invariant-steps l = IsScanning l.steps l.marks l.place l.keep

abbrev pub decreases-steps : goal.decreases-steps
decreases-steps l = l.place

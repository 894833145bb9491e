use Rattle.std.proofs.Common.{length}
use Rattle.clause_learning.proofs.Cutting.{IsRetreating}
use Rattle.clause_learning.proofs.retreating.retreat.Given as goal

abbrev pub invariant-steps : goal.invariant-steps
invariant-steps l = IsRetreating l.initial.trail l.fn.keep l.trail

abbrev pub decreases-steps : goal.decreases-steps
decreases-steps l = length l.trail.steps

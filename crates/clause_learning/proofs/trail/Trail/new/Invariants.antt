use Rattle.std.proofs.Common.{◌≡◌, None, replicate}
use Rattle.clause_learning.proofs.trail.Trail.new.Given as goal

abbrev pub invariant-loop-at : goal.invariant-loop-at
invariant-loop-at l = l.values ≡ replicate l._at None

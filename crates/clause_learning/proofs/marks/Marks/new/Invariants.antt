use Rattle.std.proofs.Common.{◌≡◌, false, replicate}
use Rattle.clause_learning.proofs.marks.Marks.new.Given as goal

abbrev pub invariant-loop-at : goal.invariant-loop-at
invariant-loop-at l = l.marks ≡ replicate l._at false

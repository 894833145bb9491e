use Rattle.std.proofs.Common.{length}
use Rattle.clause_learning.proofs.Marking.{IsClearing}
use Rattle.clause_learning.proofs.marks.Marks.clear.Given as goal

abbrev pub invariant-atoms : goal.invariant-atoms
invariant-atoms l = IsClearing l.initial.self l.self

abbrev pub decreases-atoms : goal.decreases-atoms
decreases-atoms l = length l.self.touched

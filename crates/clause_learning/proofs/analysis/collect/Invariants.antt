use Rattle.std.proofs.Common.{take}
use Rattle.clause_learning.proofs.Marking.{IsCollecting}
use Rattle.clause_learning.proofs.analysis.collect.Given as goal

abbrev pub invariant-loop-atom : goal.invariant-loop-atom
invariant-loop-atom l = IsCollecting l.fn.asserted l.trail.values l.marks (take l.atom-index l.touched) l.lits

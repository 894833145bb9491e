use Rattle.std.proofs.Common.{take}
use Rattle.clause_learning.specs.code.Marked.{AreMarked}
use Rattle.clause_learning.proofs.marks.Marks.mark_all.Given as goal

abbrev pub invariant-loop-lit : goal.invariant-loop-lit
invariant-loop-lit l = AreMarked l.initial.self (take l.lit-index l.lits) l.self

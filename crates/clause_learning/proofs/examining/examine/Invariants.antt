use Rattle.std.proofs.Common.{take}
use Rattle.clause_learning.proofs.Marking.{IsScanned}
use Rattle.clause_learning.proofs.examining.examine.Given as goal

abbrev pub invariant-loop-lit : goal.invariant-loop-lit
invariant-loop-lit l = IsScanned l.trail.values (take l.lit-index l.lits) l.open

use Rattle.std.proofs.Common.{take}
use Rattle.clause_learning.proofs.Keeping.{IsTrimmed}
use Rattle.clause_learning.proofs.trimming.kept.Given as goal

abbrev pub invariant-loop-place : goal.invariant-loop-place
invariant-loop-place l = IsTrimmed l.inputs (take l.place l.log) l.trimmed

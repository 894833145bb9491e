use Rattle.std.proofs.Common.{take}
use Rattle.clause_learning.specs.code.Held.{AreBefore}
use Rattle.clause_learning.proofs.narrowing.are_before.Given as goal

abbrev pub invariant-loop-lit : goal.invariant-loop-lit
invariant-loop-lit l = AreBefore l.trail.values (take l.lit-index l.lits) l.atom l.keep

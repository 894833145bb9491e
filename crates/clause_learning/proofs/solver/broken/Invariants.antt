use Rattle.std.proofs.Common.{take}
use Rattle.clause_learning.specs.code.States.{AllLoose}
use Rattle.clause_learning.proofs.solver.broken.Given as goal

abbrev pub invariant-loop-number : goal.invariant-loop-number
invariant-loop-number l = AllLoose l.trail.values (take l.number l.inputs)

use Rattle.std.proofs.Common.{◌≡◌, take, map}
use Rattle.clause_learning.specs.code.States.{sign_of}
use Rattle.clause_learning.proofs.solver.Solver.signs.Given as goal

abbrev pub invariant-loop-value : goal.invariant-loop-value
invariant-loop-value l = l.signs ≡ map sign_of (take l.value-index l.values)

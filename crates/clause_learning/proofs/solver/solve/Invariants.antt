use Rattle.std.proofs.Common.{◌≡◌, ◌+◌, ◌-◌, ◌*◌, ◌^◌, length}
use Rattle.clause_learning.specs.code.States.{IsState}
use Rattle.clause_learning.specs.code.Weights.{weight_of}
use Rattle.clause_learning.proofs.solver.solve.Given as goal

abbrev pub invariant-turns : goal.invariant-turns
invariant-turns l = record {
  state : IsState l.solver;
  inputs : l.solver.clauses.inputs ≡ l.fn.inputs;
  many : length l.solver.trail.values ≡ l.fn.atoms;
}

abbrev pub decreases-turns : goal.decreases-turns
decreases-turns l = l.solver.restarts.left * 3 ^ length l.solver.trail.values + (3 ^ length l.solver.trail.values - weight_of l.solver.trail)

use Rattle.std.proofs.Common.{◌≡◌, map, take}
use Rattle.fof_terms.specs.Lift.{greatest}
use Rattle.clause_order.specs.Weights.{clause_weight}
use Rattle.saturation.proofs.weighing.greatest_weight.Given as goal

abbrev pub invariant-loop-clause : goal.invariant-loop-clause
invariant-loop-clause l = l.most ≡ greatest (map clause_weight (take l.clause-index l.clauses))

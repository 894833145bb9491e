use Rattle.std.proofs.Common.{◌≡◌, take}
use Rattle.clause_order.specs.Weights.{stopped, lits_count}
use Rattle.clause_order.proofs.weighing.clause_weight_of.Given as goal

abbrev pub invariant-loop-lit : goal.invariant-loop-lit
invariant-loop-lit l = l.total ≡ stopped (lits_count (take l.lit-index l.lit-items))

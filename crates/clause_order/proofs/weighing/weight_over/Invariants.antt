use Rattle.std.proofs.Common.{◌≡◌, ◌+◌, take, map, sum}
use Rattle.fof_terms.specs.Count.{symbol_count}
use Rattle.clause_order.specs.Weights.{stopped}
use Rattle.clause_order.proofs.weighing.weight_over.Given as goal

abbrev pub invariant-loop-term : goal.invariant-loop-term
invariant-loop-term l = l.total ≡ stopped (1 + sum (map symbol_count (take l.term-index l.terms)))

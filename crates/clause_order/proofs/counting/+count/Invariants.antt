use Rattle.std.proofs.Common.{◌≡◌, take, map, sum}
use Rattle.clause_order.specs.Order.{occurrences}
use Rattle.clause_order.specs.Weights.{stopped}
use Rattle.clause_order.proofs.counting.+count.Given as goal

abbrev pub invariant-count_all-loop-term : goal.invariant-count_all-loop-term
invariant-count_all-loop-term l = l.total ≡ stopped (sum (map (occurrences l.variable) (take l.term-index l.terms)))

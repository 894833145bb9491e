use Rattle.std.proofs.Common.{◌-◌, ◌^◌}
use Rattle.clause_order.specs.Order.{occurrences}
use Rattle.clause_order.specs.Weights.{as_term}
use Rattle.clause_order.proofs.Counted.{FitsBelow}
use Rattle.clause_order.proofs.counting.atom_has_variables_of.Given as goal

abbrev pub invariant-loop-variable : goal.invariant-loop-variable
invariant-loop-variable l = FitsBelow l.from (λ x. occurrences x (as_term l.more))
    (λ x. occurrences x (as_term l.fewer))

abbrev pub decreases-loop-variable : goal.decreases-loop-variable
decreases-loop-variable l = 2 ^ 32 - l.from

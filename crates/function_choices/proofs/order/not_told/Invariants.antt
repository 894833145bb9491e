use Rattle.std.proofs.Common.{◌≡◌, take, filter, not}
use Rattle.function_choices.specs.Order.{is_told}
use Rattle.function_choices.proofs.order.not_told.Given as goal

abbrev pub invariant-loop-variable : goal.invariant-loop-variable
invariant-loop-variable l = l.rest ≡ filter (λ k. not (is_told l.told k)) (take l.variable-index l.variables)

use Rattle.std.proofs.Common.{◌≡◌, drop}
use Rattle.function_choices.specs.Order.{all_different}
use Rattle.function_choices.proofs.order.are_different.Given as goal

abbrev pub invariant-loop-at : goal.invariant-loop-at
invariant-loop-at l = all_different (drop l.at l.variables) ≡ all_different l.variables

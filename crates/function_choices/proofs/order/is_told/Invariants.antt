use Rattle.std.proofs.Common.{◌≡◌, take, false}
use Rattle.function_choices.specs.Order.{is_told}
use Rattle.function_choices.proofs.order.is_told.Given as goal

abbrev pub invariant-loop-one : goal.invariant-loop-one
invariant-loop-one l = is_told (take l.one-index l.told) l.variable ≡ false

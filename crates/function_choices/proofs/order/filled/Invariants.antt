use Rattle.std.proofs.Common.{◌≡◌, ◌++◌, ◌≤◌, drop, length}
use Rattle.function_choices.specs.Order.{filled}
use Rattle.function_choices.proofs.order.filled.Given as goal

abbrev pub invariant-loop-one : goal.invariant-loop-one
invariant-loop-one l = record {
  within : l.used ≤ length l.rest;
  made : l.made ++ filled (drop l.one-index l.told) (drop l.used l.rest) ≡ filled l.told l.rest;
}

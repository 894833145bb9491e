use Rattle.std.proofs.Common.{◌≡◌, drop}
use Rattle.function_choices.specs.Told.{universal}
use Rattle.function_choices.proofs.told.universal.Given as goal

abbrev pub invariant-loop-one : goal.invariant-loop-one
invariant-loop-one l = universal l.variable (drop l.one-index l.matched) l.arg ≡ universal l.variable l.matched l.arg

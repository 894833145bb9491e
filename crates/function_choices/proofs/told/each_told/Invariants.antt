use Rattle.std.proofs.Common.{◌≡◌, take, map}
use Rattle.function_choices.specs.Told.{universal}
use Rattle.function_choices.proofs.told.each_told.Given as goal

abbrev pub invariant-loop-arg : goal.invariant-loop-arg
invariant-loop-arg l = l.told ≡ map (universal l.variable l.matched) (take l.arg-index l.args)

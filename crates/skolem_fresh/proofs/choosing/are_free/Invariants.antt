use Rattle.std.proofs.Common.{take}
use Rattle.std.specs.List.{AllByRecursion}
use Rattle.skolem_fresh.specs.code.Choosing.{IsFree}
use Rattle.skolem_fresh.proofs.choosing.are_free.Given as goal

abbrev pub invariant-loop-function : goal.invariant-loop-function
invariant-loop-function l = AllByRecursion (IsFree l.theory l.form l.variables) (take l.function-index l.uses)

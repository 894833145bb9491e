use Rattle.std.proofs.Common.{◌≡◌, take}
use Rattle.skolem_fresh.specs.Uses.{functions_of}
use Rattle.skolem_fresh.proofs.choosing.functions_of.Given as goal

abbrev pub invariant-loop-function : goal.invariant-loop-function
invariant-loop-function l = l.functions ≡ functions_of (take l.function-index l.uses)

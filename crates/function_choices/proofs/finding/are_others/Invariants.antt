use Rattle.std.proofs.Common.{take}
use Rattle.skolem_proofs.specs.Choosing.{AreOthers}
use Rattle.function_choices.proofs.finding.are_others.Given as goal

abbrev pub invariant-loop-function : goal.invariant-loop-function
invariant-loop-function l = AreOthers l.symbol (take l.function-index l.uses)

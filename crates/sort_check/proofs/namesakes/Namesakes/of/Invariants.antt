use Rattle.std.proofs.Common.{take}
use Rattle.sort_check.specs.Namesakes.{Knows}
use Rattle.sort_check.proofs.namesakes.Namesakes.of.Given as goal

abbrev pub invariant-loop-number : goal.invariant-loop-number
invariant-loop-number l = Knows l.namesakes (take l.number l.signature.symbols)

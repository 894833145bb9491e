use Rattle.std.proofs.Common.{take}
use Rattle.clause_learning.specs.code.Trims.{IsRenumbered}
use Rattle.clause_learning.proofs.trimming.renumber.Given as goal

abbrev pub invariant-loop-number : goal.invariant-loop-number
invariant-loop-number l = IsRenumbered l.fn.given l.numbers (take l.number-index l.from) l.renumbered

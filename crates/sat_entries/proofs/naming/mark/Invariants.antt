use Rattle.std.proofs.Common.{take}
use Rattle.sat_entries.specs.code.Naming.{MarksNamed}
use Rattle.sat_entries.proofs.naming.mark.Given as goal

abbrev pub invariant-loop-number : goal.invariant-loop-number
invariant-loop-number l = MarksNamed (take l.number-index l.numbers) l.initial.marks l.marks

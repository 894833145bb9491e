use Rattle.std.proofs.Common.{take}
use Rattle.search_proofs.specs.code.Marks.{MarksAll}
use Rattle.search_proofs.proofs.ending.mark_all.Given as goal

abbrev pub invariant-loop-k : goal.invariant-loop-k
invariant-loop-k l = MarksAll (take l.k l.places) l.initial.marks l.marks

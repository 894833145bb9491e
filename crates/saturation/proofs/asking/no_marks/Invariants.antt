use Rattle.saturation.specs.code.Marked.{AllFalse}
use Rattle.saturation.proofs.asking.no_marks.Given as goal

abbrev pub invariant-loop-at : goal.invariant-loop-at
invariant-loop-at l = AllFalse l._at l.marks

use Rattle.std.proofs.Common.{take}
use Rattle.saturation.specs.code.Marked.{Marks}
use Rattle.saturation.proofs.asking.mark_all.Given as goal

abbrev pub invariant-loop-place : goal.invariant-loop-place
invariant-loop-place l = Marks (take l.place-index l.places) l.initial.marks l.marks

use Rattle.std.proofs.Common.{◌≡◌, ◌+◌, length}
use Rattle.subsumption.specs.code.Bound.{trail_of}
use Rattle.subsumption.proofs.Undoing.{IsUndoing}
use Rattle.subsumption.proofs.bindings.Bindings.undo.Given as goal

abbrev pub invariant-loop-done : goal.invariant-loop-done
invariant-loop-done l = record { undoing : IsUndoing l.fn.self l.self; left : length (trail_of l.self) + l._done ≡ length (trail_of l.fn.self) + l.count }

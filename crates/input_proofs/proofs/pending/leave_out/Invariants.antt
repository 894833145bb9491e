use Rattle.std.proofs.Common.{◌≡◌, ◌++◌, take, map}
use Rattle.std.specs.Prelude.{None}
use Rattle.input_proofs.proofs.pending.leave_out.Given as goal

abbrev pub invariant-loop-mark : goal.invariant-loop-mark
invariant-loop-mark l = l.pending ≡ l.fn.pending ++ map (λ _. None) (take l._mark-index l.wanted)

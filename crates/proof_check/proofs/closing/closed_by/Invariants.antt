use Rattle.std.proofs.Common.{◌≡◌, ◌-◌, drop, length}
use Rattle.kernel.specs.Entries.{for_all}
use Rattle.proof_check.proofs.closing.closed_by.Given as goal

abbrev pub invariant-loop-i : goal.invariant-loop-i
invariant-loop-i l = l.whole ≡ for_all (drop (length l.sorts - l.i) l.sorts) l.fn.body

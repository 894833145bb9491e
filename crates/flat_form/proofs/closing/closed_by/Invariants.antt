use Rattle.std.proofs.Common.{◌≡◌, ◌-◌, drop, length}
use Rattle.clause_form.specs.ClauseView.{closed_by}
use Rattle.flat_form.proofs.closing.closed_by.Given as goal

abbrev pub invariant-loop-number : goal.invariant-loop-number
invariant-loop-number l = l.whole ≡ closed_by (drop (length l.sorts - l.number) l.sorts) l.fn.body

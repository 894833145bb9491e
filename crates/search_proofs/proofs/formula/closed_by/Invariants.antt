use Rattle.std.proofs.Common.{◌≡◌, ◌-◌, drop, length}
use Rattle.clause_form.specs.ClauseView.{closed_by}
use Rattle.search_proofs.proofs.formula.closed_by.Given as goal

abbrev pub invariant-loop-i : goal.invariant-loop-i
invariant-loop-i l = l.whole ≡ closed_by (drop (length l.sorts - l.i) l.sorts) l.fn.body

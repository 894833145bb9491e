use Rattle.std.proofs.Common.{◌≡◌, length}
use Rattle.clause_form.specs.ClauseView.{closed_by}
use Rattle.norm_proofs.proofs.narrowing.closed.Given as goal

abbrev pub invariant-loop-sort : goal.invariant-loop-sort
invariant-loop-sort l = closed_by l.left l.form ≡ closed_by l.fn.sorts l.fn.body

abbrev pub decreases-loop-sort : goal.decreases-loop-sort
decreases-loop-sort l = length l.left

use Rattle.std.proofs.Common.{◌≡◌, length}
use Rattle.clause_form.specs.ClauseView.{closed_by}
use Rattle.norm_parts.proofs.splitting.closed.Given as goal

abbrev pub invariant-loop-sort : goal.invariant-loop-sort
invariant-loop-sort l = closed_by l.left l.whole ≡ closed_by l.sorts l.form

abbrev pub decreases-loop-sort : goal.decreases-loop-sort
decreases-loop-sort l = length l.left

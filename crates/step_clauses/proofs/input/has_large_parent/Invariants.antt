use Rattle.std.proofs.Common.{◌≡◌, take, false}
use Rattle.std.specs.List.{list_any}
use Rattle.step_clauses.specs.Wide.{is_large}
use Rattle.step_clauses.proofs.input.has_large_parent.Given as goal

abbrev pub invariant-loop-parent : goal.invariant-loop-parent
invariant-loop-parent l = list_any (λ p. is_large p.form) (take l.parent-index l.parents) ≡ false

use Rattle.std.proofs.Common.{◌≡◌, take, map, true}
use Rattle.clause_form.specs.Norm.{norm_of}
use Rattle.step_clauses.proofs.input.norms_of_parents.Given as goal

abbrev pub invariant-loop-parent : goal.invariant-loop-parent
invariant-loop-parent l = l.norms ≡ map (λ p. norm_of true p.form) (take l.parent-index l.parents)

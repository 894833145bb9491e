use Rattle.std.proofs.Common.{ℕ, ◌<◌}
use Rattle.clause_form.specs.Paths.{forms_of}
use Rattle.skolem_fresh.specs.SkolemRule.{IsSkolemOf}
use Rattle.skolem_fresh.proofs.skolem.skolem_step.Given as goal

abbrev pub invariant-loop-i : goal.invariant-loop-i
invariant-loop-i l = (j : ℕ) → j < l.i → IsSkolemOf l.theory (forms_of l.parents) l.line j → ⊥

use Rattle.std.proofs.Common.{ℕ, ◌≡◌, ◌<◌, Some, slice_get}
use Rattle.clause_form.specs.declared.clause.Lit.{Lit}
use Rattle.clause_form.specs.Covers.{IsCovered, negated}
use Rattle.rule_proofs.proofs.tautology.twofold.Given as goal

abbrev pub invariant-loop-i : goal.invariant-loop-i
invariant-loop-i l = (k : ℕ) → k < l.i → (x : Lit) → slice_get l.lits k ≡ Some x → IsCovered l.lits (negated x) → ⊥

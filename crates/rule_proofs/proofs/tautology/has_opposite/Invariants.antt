use Rattle.std.proofs.Common.{ℕ, ◌≡◌, ◌<◌, Some, slice_get}
use Rattle.clause_form.specs.declared.clause.Lit.{Lit}
use Rattle.clause_form.specs.Covers.{AreComplementary}
use Rattle.rule_proofs.proofs.tautology.has_opposite.Given as goal

abbrev pub invariant-loop-other : goal.invariant-loop-other
invariant-loop-other l = (k : ℕ) → k < l.other-index → (x : Lit) → slice_get l.lits k ≡ Some x → AreComplementary l.lit x → ⊥

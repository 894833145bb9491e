use Rattle.std.proofs.Common.{ℕ, ◌<◌, ◌≡◌, Some, slice_get}
use Rattle.clause_form.specs.declared.clause.Clause.{Clause}
use Rattle.rule_steps.specs.code.EqFactorSearch.{NoneIn}
use Rattle.rule_steps.proofs.eqfactor_rule.factor_among.Given as goal

abbrev pub invariant-loop-a : goal.invariant-loop-a
invariant-loop-a l = (a : ℕ) → a < l.a → (c : Clause) → slice_get l.search.clauses.now a ≡ Some (Some c) → NoneIn l.search.sig.now c l.search.line.now

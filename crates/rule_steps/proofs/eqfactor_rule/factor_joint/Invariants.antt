use Rattle.std.proofs.Common.{ℕ, ◌<◌}
use Rattle.rule_steps.specs.code.EqFactorSearch.{NoneFrom}
use Rattle.rule_steps.proofs.eqfactor_rule.factor_joint.Given as goal

abbrev pub invariant-loop-i : goal.invariant-loop-i
invariant-loop-i l = (i : ℕ) → i < l.i → NoneFrom l.search.sig.now l.clause l.search.line.now i

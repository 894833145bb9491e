use Rattle.std.proofs.Common.{ℕ, ◌<◌}
use Rattle.rule_steps.specs.code.EqFactorSearch.{NoneWith}
use Rattle.rule_steps.proofs.eqfactor_rule.factor_from.Given as goal

abbrev pub invariant-loop-j : goal.invariant-loop-j
invariant-loop-j l = (j : ℕ) → j < l.j → NoneWith l.search.sig.now l.clause l.search.line.now l.i j

use Rattle.std.proofs.Common.{ℕ, ◌<◌, None}
use Rattle.rule_steps.specs.code.ParamodulationSearch.{FoundInClause}
use Rattle.rule_steps.proofs.paramodulation_rule.in_clauses.Given as goal

abbrev pub invariant-loop-a : goal.invariant-loop-a
invariant-loop-a l = (a : ℕ) → a < l.a → FoundInClause l.search.sig.now l.search.clauses.now l.readings l.search.line.now a None

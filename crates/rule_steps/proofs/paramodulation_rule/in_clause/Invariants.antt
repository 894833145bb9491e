use Rattle.std.proofs.Common.{ℕ, ◌<◌, None}
use Rattle.rule_steps.specs.code.ParamodulationSearch.{FoundAtLit}
use Rattle.rule_steps.proofs.paramodulation_rule.in_clause.Given as goal

abbrev pub invariant-loop-i : goal.invariant-loop-i
invariant-loop-i l = (i : ℕ) → i < l.i → FoundAtLit l.search.sig.now l.search.clauses.now l.readings l.search.line.now l.a i None

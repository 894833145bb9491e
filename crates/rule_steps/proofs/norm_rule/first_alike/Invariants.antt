use Rattle.std.proofs.Common.{ℕ, ◌<◌}
use Rattle.clause_rules.specs.NormRule.{FlatsAlike}
use Rattle.rule_steps.proofs.norm_rule.first_alike.Given as goal

abbrev pub invariant-loop-at : goal.invariant-loop-at
invariant-loop-at l = (k : ℕ) → k < l.at → FlatsAlike l.parents l.made k → ⊥

use Rattle.std.proofs.Common.{ℕ, ◌<◌}
use Rattle.rule_steps.proofs.Outlines.{OthersAt}
use Rattle.rule_steps.proofs.outline.any_may_have.Given as goal

abbrev pub invariant-loop-at : goal.invariant-loop-at
invariant-loop-at l = (k : ℕ) → k < l.at → OthersAt l.heads l.parents k

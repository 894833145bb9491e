use Rattle.std.proofs.Common.{ℕ, ◌<◌}
use Rattle.rule_steps.specs.code.CoverFound.{NoCoverAt}
use Rattle.rule_steps.proofs.cover_rule.cover_among.Given as goal

abbrev pub invariant-loop-a : goal.invariant-loop-a
invariant-loop-a l = (a : ℕ) → a < l.a → NoCoverAt l.sig l.parents l.line a

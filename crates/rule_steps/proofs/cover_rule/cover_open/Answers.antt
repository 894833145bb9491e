use Rattle.std.proofs.Common.{subst}
use Rattle.substitution_search.specs.Screens.{NeverReached}
use Rattle.rule_steps.proofs.NotReached.{not_reached}
use Rattle.rule_steps.proofs.cover_rule.cover_open.Goals as goal

pub returns-then-not-is_open : goal.returns-then-not-is_open
returns-then-not-is_open c = not_reached c.args.sig.now c.args.norm.now c.args.line.now (subst (λ ls. NeverReached ls c.args.norm.now) c.as_slice.ensures (c.in_ok-is_open.ensures c.if-not-is_open.true))

pub returns-in-Some : goal.returns-in-Some
returns-in-Some c = rw c.in-Some.is at c.in_ok-guessed.ensures

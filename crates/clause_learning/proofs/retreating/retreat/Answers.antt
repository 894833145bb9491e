use Rattle.std.proofs.Common.{ℕ, ◌<◌, ◌≤◌, subst}
use Rattle.clause_learning.proofs.Cutting.{retreating_none, retreating_more, retreated, none_left}
use Rattle.clause_learning.proofs.retreating.retreat.Goals as goal

pub steps-init : goal.steps-init
steps-init c = retreating_none c.args.trail.now c.args.keep c.requires

pub steps-preserved : goal.steps-preserved
steps-preserved c =
    retreating_more c.args.trail.now c.steps.trail c.undo.new.self c.args.keep c.in-Some.step c.steps.invariant (subst (λ (n : ℕ). c.args.keep < n) c.len.ensures c.steps-test.true) c.in-Some.ensures

pub returns-in_default : goal.returns-in_default
returns-in_default c = absurd (none_left c.steps.trail c.args.keep c.in_default.ensures.steps (subst (λ (n : ℕ). c.args.keep < n) c.len.ensures c.steps-test.true))

pub returns : goal.returns
returns c = retreated c.args.trail.now c.steps.trail c.args.keep c.steps.invariant (subst (λ (n : ℕ). n ≤ c.args.keep) c.len.ensures c.steps-test.false)

use Rattle.std.proofs.Common.{below_more}
use Rattle.std.proofs.lemmas.Option.{slice_get-get_or}
use Rattle.rule_steps.proofs.NormSteps.{alike_at, not_alike_at, alike_nowhere}
use Rattle.rule_steps.proofs.norm_rule.first_alike.Goals as goal

pub returns-then-is_alike : goal.returns-then-is_alike
returns-then-is_alike c =
    (alike_at c.args.parents.now c.args.made.now c.loop-at.at _ (slice_get-get_or c.args.parents.now c.loop-at.at c.index-parents-at.result c.loop-at-test.true) c.in_ok-is_alike.is_alike c.in_ok-is_alike.ensures c.if-is_alike.true, c.loop-at.invariant)

pub loop-at-preserved : goal.loop-at-preserved
loop-at-preserved c =
    below_more _ _ c.loop-at.invariant
    (not_alike_at c.args.parents.now c.args.made.now c.loop-at.at _ (slice_get-get_or c.args.parents.now c.loop-at.at c.index-parents-at.result c.loop-at-test.true) c.in_ok-is_alike.is_alike c.in_ok-is_alike.ensures c.if-is_alike.false)

pub returns : goal.returns
returns c = alike_nowhere c.args.parents.now c.args.made.now c.loop-at.at c.loop-at-test.false c.loop-at.invariant

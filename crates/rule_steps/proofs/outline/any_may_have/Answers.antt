use Rattle.std.proofs.Common.{below_more}
use Rattle.std.proofs.lemmas.Option.{slice_get-get_or}
use Rattle.rule_steps.proofs.Outlines.{others_here, others_everywhere}
use Rattle.rule_steps.proofs.outline.any_may_have.Goals as goal

pub loop-at-preserved : goal.loop-at-preserved
loop-at-preserved c =
    below_more _ _ c.loop-at.invariant
    (others_here c.args.heads.now c.args.parents.now c.loop-at.at _ (slice_get-get_or c.args.parents.now c.loop-at.at c.index-parents-at.result c.loop-at-test.true) (c.in_ok-is_open.ensures c.if-is_open.false))

pub returns : goal.returns
returns c = λ e. others_everywhere c.args.heads.now c.args.parents.now c.loop-at.at c.loop-at-test.false c.loop-at.invariant

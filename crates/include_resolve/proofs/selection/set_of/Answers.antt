use Rattle.include_resolve.specs.Selection.{is_same_name}
use Rattle.include_resolve.proofs.Sets.{any_more, any_end}
use Rattle.include_resolve.proofs.selection.set_of.Goals as goal

pub loop-name-preserved : goal.loop-name-preserved
loop-name-preserved c =
    λ other. any_more (is_same_name other) c.args.names.now c.loop-name.name-index c.name-item.result _ _ c.loop-name-test.true c.name-item.is (c.in_ok-add.ensures.ok other) (c.loop-name.invariant other)

pub returns-clause-ok : goal.returns-clause-ok
returns-clause-ok c = λ other. any_end (is_same_name other) c.args.names.now c.loop-name.name-index _ c.loop-name-test.false (c.loop-name.invariant other)

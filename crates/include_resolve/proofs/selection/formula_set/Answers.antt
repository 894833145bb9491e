use Rattle.include_resolve.specs.Selection.{is_named}
use Rattle.include_resolve.proofs.Sets.{any_more, any_end}
use Rattle.include_resolve.proofs.selection.formula_set.Goals as goal

pub loop-item-preserved : goal.loop-item-preserved
loop-item-preserved c =
    λ other. any_more (is_named other) c.args.items.now c.loop-item.item-index c.item-item.result _ _ c.loop-item-test.true c.item-item.is (c.in_ok-add_formula.ensures.ok other) (c.loop-item.invariant other)

pub returns-clause-ok : goal.returns-clause-ok
returns-clause-ok c = λ other. any_end (is_named other) c.args.items.now c.loop-item.item-index _ c.loop-item-test.false (c.loop-item.invariant other)

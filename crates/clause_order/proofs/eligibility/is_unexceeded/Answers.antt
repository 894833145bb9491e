use Rattle.clause_order.proofs.Chosen.{one_more_positive, all_positive}
use Rattle.clause_order.proofs.eligibility.is_unexceeded.Goals as goal

pub loop-lit-preserved : goal.loop-lit-preserved
loop-lit-preserved c =
    one_more_positive c.args.lits.now c.index-lits-at.result c.lit-item.result c.loop-lit.lit-index c.loop-lit-test.true
    c.lit-item.is c.loop-lit.invariant c.if-not-lit.false
    c.exceeds.result c.if-exceeds.false c.exceeds.ensures

pub returns : goal.returns
returns c = all_positive c.args.lits.now c.index-lits-at.result c.args.at c.loop-lit.lit-index c.requires
    c.index-lits-at.is c.loop-lit-test.false c.loop-lit.invariant

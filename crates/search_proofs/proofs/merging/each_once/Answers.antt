use Rattle.search_proofs.proofs.Once.{no_literals, once_done, once_more}
use Rattle.search_proofs.proofs.merging.each_once.Goals as goal

pub loop-lit-init : goal.loop-lit-init
loop-lit-init c = no_literals c.new-made.result c.new-made.ensures

pub loop-lit-preserved : goal.loop-lit-preserved
loop-lit-preserved c =
    once_more c.args.lits.now c.loop-lit.lit-index c.lit-item.result c.loop-lit.made c.push_if_new.new.made c.loop-lit-test.true c.lit-item.is c.loop-lit.invariant c.in_ok-push_if_new.ensures

pub returns : goal.returns
returns c = once_done c.args.lits.now c.loop-lit.lit-index c.loop-lit.made c.loop-lit-test.false c.loop-lit.invariant

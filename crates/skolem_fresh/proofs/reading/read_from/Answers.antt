use Rattle.skolem_fresh.proofs.LoopsRead.{no_leaf_left}
use Rattle.skolem_fresh.proofs.reading.read_from.Goals as goal

pub returns-then-i-others : goal.returns-then-i-others
returns-then-i-others c = no_leaf_left c.args.outer c.args.sort c.loop-i.i c.args.leaves.now c.args.others.now c.if-i-others.true c.loop-i.invariant

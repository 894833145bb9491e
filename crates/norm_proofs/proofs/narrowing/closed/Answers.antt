use Rattle.norm_proofs.proofs.NarrowingFacts.{closed_popped}
use Rattle.norm_proofs.proofs.narrowing.closed.Goals as goal

pub loop-sort-preserved : goal.loop-sort-preserved
loop-sort-preserved c = closed_popped c.pop.new.self c.loop-sort.left c.in-Some.sort c.loop-sort.form c.in_ok-form-2.form _ c.in-Some.ensures c.in_ok-form-2.ensures c.loop-sort.invariant

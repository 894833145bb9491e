use Rattle.norm_parts.proofs.ClosedParts.{closed_next}
use Rattle.norm_parts.proofs.splitting.closed.Goals as goal

pub loop-sort-preserved : goal.loop-sort-preserved
loop-sort-preserved c = closed_next c.loop-sort.left c.pop.new.self c.args.sorts.now c.in-Some.sort c.loop-sort.whole c.in_ok-whole-2.whole c.args.form.now c.in-Some.ensures c.in_ok-whole-2.ensures c.loop-sort.invariant

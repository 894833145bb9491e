use Rattle.unify_terms.proofs.Binds.{resolved_then}
use Rattle.unify_terms.proofs.binding.resolved.Goals as goal

pub loop-preserved : goal.loop-preserved
loop-preserved c = resolved_then c.args.bound.now c.args.term.now c.loop.last.now c.in-Some.next.now c.loop.invariant c.in-Some.ensures

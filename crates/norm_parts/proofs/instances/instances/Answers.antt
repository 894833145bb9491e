use Rattle.fof_terms.specs.Scope.{scope_sorts}
use Rattle.norm_parts.proofs.InstanceParts.{next_itself, next_then}
use Rattle.norm_parts.proofs.instances.instances.Goals as goal

pub loop-term-init : goal.loop-term-init
loop-term-init c = next_itself c.args.signature.now (scope_sorts c.args.scope.now) c.args.shown c.requires

pub instance-requires : goal.instance-requires
instance-requires c = c.loop-term.invariant.sorted

pub loop-term-preserved : goal.loop-term-preserved
loop-term-preserved c = next_then c.args.signature.now (scope_sorts c.args.scope.now) c.args.shown c.loop-term.made c.in-Some.next c.loop-term.invariant (rw c.in-Some.is at c.in_ok-next.ensures)

use Rattle.norm_parts.proofs.Known.{known_none}
use Rattle.norm_parts.proofs.deciding.known_clauses.Goals as goal

pub loop-at-init : goal.loop-at-init
loop-at-init c = known_none c.args.signature.now c.args.parents.now c.new-known.result c.new-known.ensures

pub loop-at-preserved : goal.loop-at-preserved
loop-at-preserved c = c.in_ok-add_parent.ensures c.loop-at.invariant

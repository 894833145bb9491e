use Rattle.norm_parts.proofs.Known.{added_none, added_then}
use Rattle.norm_parts.proofs.candidates.add_candidates.Goals as goal

pub loop-path-init : goal.loop-path-init
loop-path-init c = added_none c.args.signature.now c.args.source c.args.form.now c.args.candidates.now

pub loop-path-preserved : goal.loop-path-preserved
loop-path-preserved c = added_then c.args.signature.now c.args.source c.args.form.now c.args.candidates.now c.loop-path.candidates c.add_reached.new.candidates c.loop-path.invariant c.in_ok-add_reached.ensures

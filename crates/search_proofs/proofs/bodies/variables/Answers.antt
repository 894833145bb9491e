use Rattle.std.proofs.Common.{refl}
use Rattle.search_proofs.proofs.ClauseBodies.{no_variables, one_variable_more}
use Rattle.search_proofs.proofs.bodies.variables.Goals as goal

pub loop-i-init : goal.loop-i-init
loop-i-init c = no_variables c.new-images.result c.new-images.ensures

pub loop-i-preserved : goal.loop-i-preserved
loop-i-preserved c = one_variable_more c.loop-i.i c.loop-i.images c.push.new.self c.loop-i.invariant (rw (c.in_ok-push.ensures.ok, c.in_ok-number.ensures) refl)

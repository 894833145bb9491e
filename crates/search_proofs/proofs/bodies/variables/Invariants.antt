use Rattle.search_proofs.specs.code.Variables.{AreVariables}
use Rattle.search_proofs.proofs.bodies.variables.Given as goal

abbrev pub invariant-loop-i : goal.invariant-loop-i
invariant-loop-i l = AreVariables l.i l.images

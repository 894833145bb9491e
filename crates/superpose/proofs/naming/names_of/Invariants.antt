use Rattle.superpose.specs.code.Named.{AreNamed}
use Rattle.superpose.proofs.naming.names_of.Given as goal

abbrev pub invariant-loop-at : goal.invariant-loop-at
invariant-loop-at l = AreNamed l.scope l.fn.kept l.kept l.at l.images

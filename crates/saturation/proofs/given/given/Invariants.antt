use Rattle.std.proofs.Common.{take}
use Rattle.saturation.specs.code.Given.{AreGiven}
use Rattle.saturation.proofs.given.given.Given as goal

abbrev pub invariant-loop-at : goal.invariant-loop-at
invariant-loop-at l = AreGiven (take l.at l.inputs) l.members

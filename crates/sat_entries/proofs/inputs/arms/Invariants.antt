use Rattle.std.proofs.Common.{◌≡◌, take}
use Rattle.sat_entries.specs.code.Inputs.{arms_of}
use Rattle.sat_entries.proofs.inputs.arms.Given as goal

abbrev pub invariant-loop-at : goal.invariant-loop-at
invariant-loop-at l = l.made ≡ arms_of 0 (take l.at l.lits)

use Rattle.std.proofs.Common.{◌≡◌, take}
use Rattle.sat_step.specs.code.Numbers.{sign_lits}
use Rattle.sat_step.proofs.reading.read_signs.Given as goal

abbrev pub invariant-loop-number : goal.invariant-loop-number
invariant-loop-number l = l.lits ≡ sign_lits l.atoms 0 (take l.number l.signs)

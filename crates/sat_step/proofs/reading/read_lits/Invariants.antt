use Rattle.std.proofs.Common.{◌≡◌, take, map}
use Rattle.sat_step.specs.code.Numbers.{read_lit}
use Rattle.sat_step.proofs.reading.read_lits.Given as goal

abbrev pub invariant-loop-literal : goal.invariant-loop-literal
invariant-loop-literal l = l.lits ≡ map (read_lit l.atoms) (take l.literal-index l.literals)

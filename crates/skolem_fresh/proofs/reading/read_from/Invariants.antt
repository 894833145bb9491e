use Rattle.std.proofs.Common.{◌≡◌, drop}
use Rattle.skolem_fresh.specs.code.Reading.{read_from}
use Rattle.skolem_fresh.proofs.reading.read_from.Given as goal

abbrev pub invariant-loop-i : goal.invariant-loop-i
invariant-loop-i l = read_from l.outer l.sort (drop l.i l.leaves) (drop l.i l.others) ≡ read_from l.outer l.sort l.leaves l.others

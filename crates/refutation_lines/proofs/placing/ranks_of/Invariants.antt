use Rattle.std.proofs.Common.{◌≡◌, ◌++◌, drop}
use Rattle.refutation_lines.specs.Places.{ranks_from}
use Rattle.refutation_lines.proofs.placing.ranks_of.Given as goal

abbrev pub invariant-loop-is_marked : goal.invariant-loop-is_marked
invariant-loop-is_marked l = l.ranks ++ ranks_from l.next (drop l.is_marked-index l.marks) ≡ ranks_from 0 l.marks

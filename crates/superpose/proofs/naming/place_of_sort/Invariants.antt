use Rattle.std.proofs.Common.{◌≤◌, length}
use Rattle.superpose.proofs.naming.place_of_sort.Given as goal

abbrev pub invariant-loop-at : goal.invariant-loop-at
invariant-loop-at l = l.at ≤ length l.kept

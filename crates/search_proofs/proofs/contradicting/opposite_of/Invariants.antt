use Rattle.std.proofs.Common.{◌≤◌, length}
use Rattle.search_proofs.proofs.contradicting.opposite_of.Given as goal

abbrev pub invariant-loop-at : goal.invariant-loop-at
invariant-loop-at l = l.at ≤ length l.members

use Rattle.std.proofs.Common.{length}
use Rattle.saturation.proofs.Passing.{IsNaming}
use Rattle.saturation.proofs.pairing.name_all.Given as goal

abbrev pub invariant-loop-next : goal.invariant-loop-next
invariant-loop-next l = IsNaming l.initial.made l.made l.first l.second l.initial.members l.members

abbrev pub decreases-loop-next : goal.decreases-loop-next
decreases-loop-next l = length l.made

use Rattle.search_proofs.proofs.Sweeping.{IsSwept}
use Rattle.search_proofs.proofs.needing.sweep.Given as goal

abbrev pub invariant-loop-k : goal.invariant-loop-k
invariant-loop-k l = IsSwept l.members l.initial.marks l.k l.marks

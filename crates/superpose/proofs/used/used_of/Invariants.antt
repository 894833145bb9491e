use Rattle.superpose.proofs.UseFacts.{UsesBelow}
use Rattle.superpose.proofs.used.used_of.Given as goal

abbrev pub invariant-loop-i : goal.invariant-loop-i
invariant-loop-i l = UsesBelow l.clause.lits l.i l.used

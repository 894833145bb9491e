use Rattle.clause_order.proofs.Chosen.{AreNotBefore}
use Rattle.clause_order.proofs.eligibility.is_first_heaviest.Given as goal

abbrev pub invariant-loop-place : goal.invariant-loop-place
invariant-loop-place l = AreNotBefore l.lits l.weight l.at l.place

use Rattle.clause_order.proofs.Chosen.{DoNotExceed}
use Rattle.clause_order.proofs.eligibility.is_unexceeded.Given as goal

abbrev pub invariant-loop-lit : goal.invariant-loop-lit
invariant-loop-lit l = DoNotExceed l.lits l.chosen l.lit-index

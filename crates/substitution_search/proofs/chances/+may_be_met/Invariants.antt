use Rattle.substitution_search.proofs.Unmet.{NoneBefore}
use Rattle.substitution_search.proofs.chances.+may_be_met.Given as goal

abbrev pub invariant-may_one_be_met-loop-at : goal.invariant-may_one_be_met-loop-at
invariant-may_one_be_met-loop-at l = NoneBefore l.rigid l.goals l.at

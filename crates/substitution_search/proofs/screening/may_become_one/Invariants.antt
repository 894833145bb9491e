use Rattle.substitution_search.proofs.Uncovered.{NotYet}
use Rattle.substitution_search.proofs.screening.may_become_one.Given as goal

abbrev pub invariant-loop-target : goal.invariant-loop-target
invariant-loop-target l = NotYet l.targets l.lit l.target-index

use Rattle.substitution_search.proofs.Uncovered.{NotBefore}
use Rattle.substitution_search.proofs.screening.may_be_covered.Given as goal

abbrev pub invariant-loop-target : goal.invariant-loop-target
invariant-loop-target l = NotBefore l.line l.lit l.target-index

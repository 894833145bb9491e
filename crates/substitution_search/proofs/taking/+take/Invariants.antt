use Rattle.substitution_search.proofs.TakenSoFar.{TakenSoFar}
use Rattle.substitution_search.proofs.taking.+take.Given as goal

abbrev pub invariant-take_each-loop-member : goal.invariant-take_each-loop-member
invariant-take_each-loop-member l = TakenSoFar l.members l.member-index l.initial.taking l.initial.names l.paths l.taking l.names

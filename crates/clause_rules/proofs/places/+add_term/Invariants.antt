use Rattle.clause_rules.proofs.PlaceCode.{ListedSoFar}
use Rattle.clause_rules.proofs.places.+add_term.Given as goal

abbrev pub invariant-add_all-loop-at : goal.invariant-add_all-loop-at
invariant-add_all-loop-at l = ListedSoFar l.terms l.at l.initial.places l.initial.steps l.places l.steps

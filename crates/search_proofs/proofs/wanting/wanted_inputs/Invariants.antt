use Rattle.search_proofs.proofs.WantedFacts.{AreMarkedSoFar}
use Rattle.search_proofs.proofs.wanting.wanted_inputs.Given as goal

abbrev pub invariant-loop-at : goal.invariant-loop-at
invariant-loop-at l = AreMarkedSoFar l.count l.members l.needed l.last l.at l.marks

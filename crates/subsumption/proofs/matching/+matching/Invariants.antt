use Rattle.subsumption.proofs.MatchedFacts.{AreMatching}
use Rattle.subsumption.proofs.matching.+matching.Given as goal

abbrev pub invariant-match_terms-loop-i : goal.invariant-match_terms-loop-i
invariant-match_terms-loop-i l = AreMatching l.fn.bindings l.bindings l.terms l.targets l.i

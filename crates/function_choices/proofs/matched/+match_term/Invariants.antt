use Rattle.std.proofs.Common.{◌≡◌, ◌++◌, drop, map}
use Rattle.function_choices.specs.Matched.{at_each, matches}
use Rattle.function_choices.proofs.matched.+match_term.Given as goal

abbrev pub invariant-match_terms-loop-at : goal.invariant-match_terms-loop-at
invariant-match_terms-loop-at l = l.matched ++ at_each (map matches (drop l.at l.patterns)) (drop l.at l.terms) ≡ l.fn.matched ++ at_each (map matches l.patterns) l.terms

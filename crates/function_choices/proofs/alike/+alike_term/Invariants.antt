use Rattle.std.proofs.Common.{◌≡◌, drop, map}
use Rattle.function_choices.specs.Alike.{is_alike, pass}
use Rattle.function_choices.proofs.alike.+alike_term.Given as goal

abbrev pub invariant-alike_terms-loop-at : goal.invariant-alike_terms-loop-at
invariant-alike_terms-loop-at l = pass (map (is_alike l.function l.variable) (drop l.at l.patterns)) (drop l.at l.terms) ≡ pass (map (is_alike l.function l.variable) l.patterns) l.terms

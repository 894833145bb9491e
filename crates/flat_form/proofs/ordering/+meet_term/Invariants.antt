use Rattle.std.proofs.Common.{◌≡◌, take, flat_map}
use Rattle.flat_form.specs.Flat.{met_all}
use Rattle.flat_form.specs.Variables.{variables_of_term}
use Rattle.flat_form.proofs.ordering.+meet_term.Given as goal

abbrev pub invariant-meet_terms-loop-term : goal.invariant-meet_terms-loop-term
invariant-meet_terms-loop-term l = l.met.keys ≡ met_all l.count l.fn.met.keys (flat_map (variables_of_term l.depth) (take l.term-index l.terms))

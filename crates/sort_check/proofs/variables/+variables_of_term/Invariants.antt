use Rattle.sort_check.specs.code.Variables.{variables_of_term}
use Rattle.sort_check.proofs.Noting.{NotedSoFar}
use Rattle.sort_check.proofs.variables.+variables_of_term.Given as goal

abbrev pub invariant-note_in_terms-loop-term : goal.invariant-note_in_terms-loop-term
invariant-note_in_terms-loop-term l = NotedSoFar variables_of_term l.terms l.initial.found l.term-index l.found

use Rattle.sort_check.specs.code.Variables.{variables_of}
use Rattle.sort_check.proofs.Noting.{NotedSoFar}
use Rattle.sort_check.proofs.variables.+variables_of.Given as goal

abbrev pub invariant-note_in_members-loop-form : goal.invariant-note_in_members-loop-form
invariant-note_in_members-loop-form l = NotedSoFar variables_of l.forms l.initial.found l.form-index l.found

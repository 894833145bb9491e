use Rattle.substitution_search.proofs.Opened.{OpenedSoFar}
use Rattle.substitution_search.proofs.opening.+open.Given as goal

abbrev pub invariant-open_all-loop-form : goal.invariant-open_all-loop-form
invariant-open_all-loop-form l = OpenedSoFar l.line l.forms l.form-index l.initial.sorts l.initial.names l.goals l.sorts l.names

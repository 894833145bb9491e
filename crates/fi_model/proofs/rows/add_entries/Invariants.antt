use Rattle.fi_model.proofs.RowLoops.{Entering}
use Rattle.fi_model.proofs.rows.add_entries.Given as goal

abbrev pub invariant-loop-entry : goal.invariant-loop-entry
invariant-loop-entry l = Entering l.signature l.domains l.at l.entries l.entry-index l.initial.found l.found

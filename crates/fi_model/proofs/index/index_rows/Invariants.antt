use Rattle.fi_model.proofs.FillFacts.{Indexes}
use Rattle.fi_model.proofs.index.index_rows.Given as goal

abbrev pub invariant-loop-row : goal.invariant-loop-row
invariant-loop-row l = Indexes l.rows l.row-index l.index

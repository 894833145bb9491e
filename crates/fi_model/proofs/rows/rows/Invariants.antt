use Rattle.std.proofs.Common.{◌≡◌, drop}
use Rattle.fi_model.specs.Models.{rows}
use Rattle.fi_model.proofs.RowLoops.{behind}
use Rattle.fi_model.proofs.rows.rows.Given as goal

abbrev pub invariant-loop-at : goal.invariant-loop-at
invariant-loop-at l = rows l.signature l.domains 0 l.said ≡ behind l.found (rows l.signature l.domains l.at (drop l.at l.said))

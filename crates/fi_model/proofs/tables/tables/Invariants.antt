use Rattle.std.proofs.Common.{◌≡◌, length}
use Rattle.fi_model.specs.code.Adding.{told, AreTables}
use Rattle.fi_model.proofs.tables.tables.Given as goal

abbrev pub invariant-loop-number : goal.invariant-loop-number
invariant-loop-number l = record { are : AreTables l.signature (told l.index) l.domains l.tables; count : length l.tables ≡ l.number }

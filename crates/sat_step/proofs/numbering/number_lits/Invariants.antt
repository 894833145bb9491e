use Rattle.std.proofs.Common.{take}
use Rattle.sat_step.specs.code.Atoms.{AreNumbered, IsPrefix}
use Rattle.sat_step.specs.code.Numbers.{IsReadClause}
use Rattle.sat_step.proofs.numbering.number_lits.Given as goal

abbrev pub invariant-loop-lit : goal.invariant-loop-lit
invariant-loop-lit l = record {
  numbered : AreNumbered l.table;
  kept : IsPrefix l.initial.table.atoms l.table.atoms;
  read : IsReadClause l.table.atoms l.literals (take l.lit-index l.lits);
}

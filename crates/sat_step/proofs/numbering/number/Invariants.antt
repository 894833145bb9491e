use Rattle.std.proofs.Common.{take}
use Rattle.std.specs.List.{AllZip}
use Rattle.sat_step.specs.code.Atoms.{AreNumbered}
use Rattle.sat_step.specs.code.Numbers.{IsReadClause}
use Rattle.sat_step.proofs.numbering.number.Given as goal

abbrev pub invariant-loop-clause : goal.invariant-loop-clause
invariant-loop-clause l = record {
  numbered : AreNumbered l.table;
  read : AllZip (λ xs c. IsReadClause l.table.atoms xs c.lits) l.numbered (take l.clause-index l.clauses);
}

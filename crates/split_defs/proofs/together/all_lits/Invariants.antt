use Rattle.std.proofs.Common.{◌≡◌, ◌≤◌, ◌++◌, length, drop}
use Rattle.split_defs.specs.SplitRule.{together}
use Rattle.split_defs.proofs.together.all_lits.Given as goal

abbrev pub invariant-loop-clause : goal.invariant-loop-clause
invariant-loop-clause l = record {
  left : l.left ≡ length (together (drop l.clause-index l.clauses)).sorts;
  few : l.left ≤ 1000000000;
  lits : l.lits ++ (together (drop l.clause-index l.clauses)).lits ≡ (together l.clauses).lits;
}

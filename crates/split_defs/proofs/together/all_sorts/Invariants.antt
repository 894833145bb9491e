use Rattle.std.proofs.Common.{◌≡◌, ◌++◌, drop}
use Rattle.split_defs.specs.SplitRule.{together}
use Rattle.split_defs.proofs.together.all_sorts.Given as goal

abbrev pub invariant-loop-clause : goal.invariant-loop-clause
invariant-loop-clause l = l.sorts ++ (together (drop l.clause-index l.clauses)).sorts ≡ (together l.clauses).sorts

use Rattle.std.proofs.Common.{◌≡◌, ◌++◌, take}
use Rattle.packed_clauses.specs.code.Spelling.{spelled_sorts}
use Rattle.packed_clauses.proofs.writing.write_sorts.Given as goal

abbrev pub invariant-loop-sort : goal.invariant-loop-sort
invariant-loop-sort l = l.bytes ≡ l.fn.bytes ++ spelled_sorts (take l.sort-index l.sorts)

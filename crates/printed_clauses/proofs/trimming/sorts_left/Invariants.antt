use Rattle.std.proofs.Common.{◌≡◌, ◌++◌, drop}
use Rattle.printed_clauses.specs.Trimmed.{kept_sorts}
use Rattle.printed_clauses.specs.Marks.{is_marked}
use Rattle.printed_clauses.proofs.trimming.sorts_left.Given as goal

abbrev pub invariant-loop-at : goal.invariant-loop-at
invariant-loop-at l = l.kept ++ kept_sorts (is_marked l.marks) (drop l.at l.sorts) ≡ kept_sorts (is_marked l.marks) l.sorts

use Rattle.std.proofs.Common.{◌≡◌}
use Rattle.printed_clauses.specs.Trimmed.{count_below, new_variables}
use Rattle.printed_clauses.specs.Marks.{is_marked}
use Rattle.printed_clauses.proofs.trimming.new_numbers.Given as goal

abbrev pub invariant-loop-is_kept : goal.invariant-loop-is_kept
invariant-loop-is_kept l = (l.images ≡ new_variables (is_marked l.marks) l.is_kept-index) × (l.number ≡ count_below (is_marked l.marks) l.is_kept-index)

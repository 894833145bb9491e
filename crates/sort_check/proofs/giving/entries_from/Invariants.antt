use Rattle.std.proofs.Common.{◌≡◌, ◌++◌, reverse, length}
use Rattle.sort_check.specs.Given.{given_entries}
use Rattle.sort_check.proofs.giving.entries_from.Given as goal

abbrev pub invariant-loop-line : goal.invariant-loop-line
invariant-loop-line l = given_entries (reverse l.fn.lines) ≡ l.entries ++ given_entries (reverse l.left)

abbrev pub decreases-loop-line : goal.decreases-loop-line
decreases-loop-line l = length l.left

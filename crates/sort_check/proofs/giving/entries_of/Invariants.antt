use Rattle.std.proofs.Common.{◌≡◌, ◌++◌, drop}
use Rattle.sort_check.specs.Given.{given_entries}
use Rattle.sort_check.proofs.giving.entries_of.Given as goal

abbrev pub invariant-loop-line : goal.invariant-loop-line
invariant-loop-line l = given_entries l.lines ≡ l.entries ++ given_entries (drop l.line-index l.lines)

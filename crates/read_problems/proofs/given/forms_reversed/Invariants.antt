use Rattle.std.proofs.Common.{◌≡◌, ◌++◌, map, reverse, length}
use Rattle.sort_check.specs.declared.line.GivenEntry.{GivenEntry}
use Rattle.sort_check.specs.Given.{given_entries}
use Rattle.read_problems.proofs.given.forms_reversed.Given as goal

-- what is left gives, and the formulas so far, are all
abbrev pub invariant-loop-line : goal.invariant-loop-line
invariant-loop-line l = map (λ (e : GivenEntry). e.form) (given_entries l.left) ++ reverse l.forms ≡ map (λ (e : GivenEntry). e.form) (given_entries l.fn.lines)

abbrev pub decreases-loop-line : goal.decreases-loop-line
decreases-loop-line l = length l.left

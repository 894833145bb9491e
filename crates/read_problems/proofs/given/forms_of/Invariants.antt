use Rattle.std.proofs.Common.{◌≡◌, ◌++◌, map, reverse, length}
use Rattle.sort_check.specs.declared.line.GivenEntry.{GivenEntry}
use Rattle.sort_check.specs.Given.{given_entries}
use Rattle.read_problems.proofs.given.forms_of.Given as goal

-- the formulas so far, and those that are left, are all
abbrev pub invariant-loop-form : goal.invariant-loop-form
invariant-loop-form l = l.forms ++ reverse l.left ≡ map (λ (e : GivenEntry). e.form) (given_entries l.fn.lines)

abbrev pub decreases-loop-form : goal.decreases-loop-form
decreases-loop-form l = length l.left

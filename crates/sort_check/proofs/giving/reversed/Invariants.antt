use Rattle.std.proofs.Common.{◌≡◌, ◌++◌, reverse, length}
use Rattle.sort_check.proofs.giving.reversed.Given as goal

abbrev pub invariant-loop-last : goal.invariant-loop-last
invariant-loop-last l = l.list ++ reverse l.left ≡ reverse l.fn.lines

abbrev pub decreases-loop-last : goal.decreases-loop-last
decreases-loop-last l = length l.left

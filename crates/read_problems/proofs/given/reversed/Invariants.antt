use Rattle.std.proofs.Common.{◌≡◌, ◌++◌, reverse, length}
use Rattle.read_problems.proofs.given.reversed.Given as goal

abbrev pub invariant-loop-last : goal.invariant-loop-last
invariant-loop-last l = l.list ++ reverse l.left ≡ reverse l.fn.entries

abbrev pub decreases-loop-last : goal.decreases-loop-last
decreases-loop-last l = length l.left

use Rattle.std.proofs.Common.{◌≡◌, ◌++◌, reverse, take}
use Rattle.superpose.proofs.reversing.push_reversed.Given as goal

abbrev pub invariant-loop-at : goal.invariant-loop-at
invariant-loop-at l = l.list.items ≡ l.fn.list.items ++ take l.at (reverse l.sorts)

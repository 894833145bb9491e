use Rattle.std.proofs.Common.{◌≡◌, ◌++◌, take}
use Rattle.flat_proofs.proofs.members.add_sorts.Given as goal

abbrev pub invariant-loop-sort : goal.invariant-loop-sort
invariant-loop-sort l = l.made ≡ l.fn.made ++ take l.sort-index l.sorts

use Rattle.std.proofs.Common.{◌≡◌, ◌++◌, take}
use Rattle.clausified_steps.proofs.entries.add_parents.Given as goal

abbrev pub invariant-loop-parent : goal.invariant-loop-parent
invariant-loop-parent l = l.all ≡ l.fn.all ++ take l.parent-index l.parents

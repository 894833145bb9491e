use Rattle.std.proofs.Common.{◌≡◌}
use Rattle.step_search.proofs.Growing.{sorts_alone}
use Rattle.step_search.proofs.grown.copy_sorts.Given as goal

abbrev pub invariant-loop-number : goal.invariant-loop-number
invariant-loop-number l = l.copy ≡ sorts_alone l.signature l.number

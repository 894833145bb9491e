use Rattle.std.proofs.Common.{◌≡◌}
use Rattle.sort_check.proofs.Fronting.{sorts_alone}
use Rattle.sort_check.proofs.front.copy_sorts.Given as goal

abbrev pub invariant-loop-number : goal.invariant-loop-number
invariant-loop-number l = l.copy ≡ sorts_alone l.signature l.number

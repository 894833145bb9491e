use Rattle.std.proofs.Common.{◌≡◌, ◌++◌, ◌-◌}
use Rattle.kernel.specs.Entries.{variables}
use Rattle.proof_check.proofs.closing.arguments.Given as goal

abbrev pub invariant-loop-i : goal.invariant-loop-i
invariant-loop-i l = l.terms ++ variables (l.count - l.i) ≡ variables l.count

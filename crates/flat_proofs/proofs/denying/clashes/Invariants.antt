use Rattle.std.proofs.Common.{◌≡◌, ◌-◌, ◌++◌}
use Rattle.flat_proofs.specs.code.Gathering.{clashes}
use Rattle.flat_proofs.proofs.denying.clashes.Given as goal

abbrev pub invariant-loop-done : goal.invariant-loop-done
invariant-loop-done l = l.made ++ clashes (l.count - l.done) ≡ clashes l.count

use Rattle.std.proofs.Common.{◌≡◌}
use Rattle.flat_proofs.specs.code.Halving.{picks}
use Rattle.flat_proofs.proofs.halving.picks.Given as goal

abbrev pub invariant-loop-place : goal.invariant-loop-place
invariant-loop-place l = l.made ≡ picks l.hypothesis l.first l.place

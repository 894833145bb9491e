use Rattle.std.proofs.Common.{◌≡◌, take}
use Rattle.superpose.specs.code.Named.{sorts_at}
use Rattle.superpose.proofs.naming.sorts_of.Given as goal

abbrev pub invariant-loop-at : goal.invariant-loop-at
invariant-loop-at l = l.sorts ≡ sorts_at l.scope (take l.at l.kept)

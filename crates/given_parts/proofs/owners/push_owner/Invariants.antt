use Rattle.std.proofs.Common.{◌≡◌, ◌++◌}
use Rattle.std.specs.Prelude.{replicate}
use Rattle.given_parts.proofs.owners.push_owner.Given as goal

abbrev pub invariant-loop : goal.invariant-loop
invariant-loop l = l.owners ≡ l.fn.owners ++ replicate l.counter l.number

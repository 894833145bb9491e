use Rattle.std.proofs.Common.{◌≡◌, ◌++◌, drop}
use Rattle.given_parts.specs.Owners.{owners_from}
use Rattle.given_parts.proofs.owners.owners_of.Given as goal

abbrev pub invariant-loop-number : goal.invariant-loop-number
invariant-loop-number l = l.owners ++ owners_from l.number (drop l.number l.parts) ≡ owners_from 0 l.parts

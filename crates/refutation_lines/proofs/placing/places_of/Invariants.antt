use Rattle.std.proofs.Common.{◌≡◌, ◌++◌, drop}
use Rattle.refutation_lines.specs.Places.{places_from}
use Rattle.refutation_lines.proofs.placing.places_of.Given as goal

abbrev pub invariant-loop-at : goal.invariant-loop-at
invariant-loop-at l = l.places ++ places_from l.ranks l.next (drop l.at l.needed) (drop l.at l.members) ≡ places_from l.ranks l.first l.needed l.members

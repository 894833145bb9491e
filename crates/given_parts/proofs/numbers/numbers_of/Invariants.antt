use Rattle.std.proofs.Common.{◌≡◌, ◌≤◌, ◌+◌, ◌++◌, drop}
use Rattle.given_parts.specs.Numbers.{firsts_from, numbers_from}
use Rattle.given_parts.specs.Parts.{ex_counts}
use Rattle.given_parts.proofs.numbers.numbers_of.Given as goal

abbrev pub invariant-loop-at : goal.invariant-loop-at
invariant-loop-at l = record {
  firsts : l.firsts ++ firsts_from l.next (drop l.at l.used) (drop l.at l.parts) ≡ firsts_from l.first l.used l.parts;
  all : l.all ++ numbers_from l.next (drop l.at l.used) (drop l.at l.parts) ≡ numbers_from l.first l.used l.parts;
  room : l.next + ex_counts (drop l.at l.parts) ≤ l.first + ex_counts l.parts;
}

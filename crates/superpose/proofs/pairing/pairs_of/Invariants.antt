use Rattle.std.proofs.Common.{◌≡◌, take}
use Rattle.clause_rules.specs.Ways.{zip_pairs}
use Rattle.superpose.proofs.pairing.pairs_of.Given as goal

abbrev pub invariant-loop-at : goal.invariant-loop-at
invariant-loop-at l = l.pairs ≡ zip_pairs (take l.at l.first) (take l.at l.second)

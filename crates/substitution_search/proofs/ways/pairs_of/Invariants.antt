use Rattle.std.proofs.Common.{◌≡◌, take}
use Rattle.clause_rules.specs.Ways.{zip_pairs}
use Rattle.substitution_search.proofs.ways.pairs_of.Given as goal

abbrev pub invariant-loop-at : goal.invariant-loop-at
invariant-loop-at l = l.pairs ≡ zip_pairs (take l.at l.left) (take l.at l.right)

use Rattle.std.proofs.Common.{◌≡◌, map, sum, take}
use Rattle.derivation_limits.specs.Totals.{capped, total_of}
use Rattle.limited_items.proofs.wanted.total_of_all.Given as goal

abbrev pub invariant-loop-name : goal.invariant-loop-name
invariant-loop-name l = l.total ≡ capped (sum (map (total_of l.totals) (take l.name-index l.names)))

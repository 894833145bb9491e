use Rattle.std.proofs.Common.{◌≡◌, take, map}
use Rattle.substitution_search.specs.CoverSearch.{named, near}
use Rattle.substitution_search.proofs.naming.lits_named.Given as goal

abbrev pub invariant-loop-lit : goal.invariant-loop-lit
invariant-loop-lit l = l.made ≡ map (named (near l.names)) (take l.lit-index l.lits)

use Rattle.std.proofs.Common.{◌≡◌, take, map, flat_map}
use Rattle.unify_terms.specs.declared.goal.Goal.{Same}
use Rattle.clause_rules.specs.Ways.{lit_ways}
use Rattle.substitution_search.proofs.ways.covered.Given as goal

abbrev pub invariant-loop-target : goal.invariant-loop-target
invariant-loop-target l = l.ways ≡ map Same (flat_map (lit_ways l.lit.positive l.lit.atom) (take l.target-index l.targets))

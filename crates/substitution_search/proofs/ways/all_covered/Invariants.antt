use Rattle.std.proofs.Common.{◌≡◌, take, map}
use Rattle.clause_rules.specs.Ways.{goal_of_need, cover_ways}
use Rattle.substitution_search.proofs.ways.all_covered.Given as goal

abbrev pub invariant-loop-lit : goal.invariant-loop-lit
invariant-loop-lit l = l.goals ≡ map (λ k. goal_of_need (cover_ways l.targets k)) (take l.lit-index l.lits)

-- The goals of literals that are to be covered.
use Rattle.std.specs.Prelude.{◌≡◌, List, map}
use Rattle.std.proofs.Common.{sym}
use Rattle.std.proofs.lemmas.Simd.{map-map}
use Rattle.clause_form.specs.declared.clause.Lit.{Lit}
use Rattle.clause_rules.specs.Ways.{cover_ways, cover_needs, goal_of_need}

-- the goals of literals that are to be covered
pub covered_goals : (targets lits : List Lit) → map (λ k. goal_of_need (cover_ways targets k)) lits ≡ map goal_of_need (cover_needs targets lits)
covered_goals targets lits = sym (map-map goal_of_need (cover_ways targets) lits)

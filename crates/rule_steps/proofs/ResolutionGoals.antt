-- The goal of a resolution, as code makes it.
use Rattle.std.specs.Prelude.{◌≡◌, not, List, [], ◌∷◌, ◌++◌, map, refl}
use Rattle.std.proofs.Common.{ap, sym, ◌∙◌}
use Rattle.std.proofs.lemmas.List.{map-append}
use Rattle.clause_form.specs.declared.clause.Lit.{Lit}
use Rattle.unify_terms.specs.declared.goal.Goal.{Goal, All, Any, Same}
use Rattle.rule_steps.specs.code.ResolutionSearch.{resolution_needs}
use Rattle.clause_rules.specs.Ways.{lit_ways, cover_ways, cover_needs, goal_of_need, goal_of_needs}
use Rattle.substitution_search.proofs.CoveredGoals.{covered_goals}

pub goal_is : (line left right : List Lit) (pivot opposite : Lit) (ways : List Goal) (targets others : List Lit) (first second one two three : List Goal) → ways ≡ map Same (lit_ways (not pivot.positive) pivot.atom opposite) → one ≡ Any ways ∷ []
    → targets ≡ line ++ pivot ∷ [] → first ≡ map (λ k. goal_of_need (cover_ways targets k)) left → two ≡ one ++ first
    → others ≡ line ++ opposite ∷ [] → second ≡ map (λ k. goal_of_need (cover_ways others k)) right → three ≡ two ++ second
    → All three ≡ goal_of_needs (resolution_needs line left right pivot opposite)
goal_is line left right pivot opposite ways targets others first second one two three w a t f b o s c =
    let left_goals : first ≡ map goal_of_need (cover_needs (line ++ pivot ∷ []) left) = f ∙ covered_goals targets left ∙ ap (λ ts. map goal_of_need (cover_needs ts left)) t in
    let right_goals : second ≡ map goal_of_need (cover_needs (line ++ opposite ∷ []) right) = s ∙ covered_goals others right ∙ ap (λ ts. map goal_of_need (cover_needs ts right)) o in
    let head : one ≡ goal_of_need (lit_ways (not pivot.positive) pivot.atom opposite) ∷ [] = a ∙ ap (λ ws. Any ws ∷ []) w in
    let both : three ≡ goal_of_need (lit_ways (not pivot.positive) pivot.atom opposite) ∷ (map goal_of_need (cover_needs (line ++ pivot ∷ []) left) ++ map goal_of_need (cover_needs (line ++ opposite ∷ []) right)) =
    c ∙ (rw (b, head, left_goals, right_goals) refl) in
    ap All (both ∙ ap (λ gs. goal_of_need (lit_ways (not pivot.positive) pivot.atom opposite) ∷ gs) (sym (map-append goal_of_need (cover_needs (line ++ pivot ∷ []) left) (cover_needs (line ++ opposite ∷ []) right))))

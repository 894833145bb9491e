-- And-or goals over pairs of terms, and the substitutions that meet them under choices.
use Rattle.std.specs.Prelude.{ℕ, ◌≡◌, ◌++◌, Bool, true, false, ◌&&◌, List, [], ◌∷◌, slice_get, Option, Some, None}
use Rattle.std.specs.List.{list_all}
use Rattle.fof_terms.specs.Vocabulary.{Vocabulary}
use Rattle.fof_terms.specs.Sorts.{sort_of_term}
use Rattle.fof_terms.specs.declared.term.Term.{Term}
use Rattle.unify_terms.specs.declared.pair.Pair.{Pair}
use Rattle.unify_terms.specs.declared.scope.Scope.{Scope}
use Rattle.unify_terms.specs.declared.solving.Solution.{Solution}
use Rattle.unify_terms.specs.declared.goal.Goal.{Goal, All, Any, Same}
use Rattle.unify_terms.specs.declared.goal.Goal.TheFolds.{fold-Goal}
use Rattle.unify_terms.specs.Substitution.{IsSubstitution}
use Rattle.unify_terms.specs.Unifiers.{Unifies}
use Rattle.unify_terms.specs.declared.goal.Goal.TheOpen as goal

-- from the choices to come: the pairs that are asked to be equal, and the choices that are left; None where the choices
-- don't fit
abbrev pub Ways : Type 0
Ways = List ℕ → Option (List Pair × List ℕ)

abbrev pub with_pairs : List Pair → Option (List Pair × List ℕ) → Option (List Pair × List ℕ)
with_pairs ps None = None
with_pairs ps (Some r) = Some (ps ++ r.0, r.1)

abbrev pub and_then : Option (List Pair × List ℕ) → Ways → Option (List Pair × List ℕ)
and_then None next = None
and_then (Some r) next = with_pairs r.0 (next r.1)

-- first the one, then the other with the choices that are left
abbrev pub before : Ways → Ways → Ways
before first next choices = and_then (first choices) next

-- no pair is asked
abbrev pub nothing : Ways
nothing choices = Some ([], choices)

-- one after the other
abbrev pub each_of : List Ways → Ways
each_of [] = nothing
each_of (g ∷ gs) = before g (each_of gs)

abbrev pub chosen_way : Option Ways → Ways
chosen_way None choices = None
chosen_way (Some g) choices = g choices

-- the next choice says which, the first being 0
abbrev pub one_of : List Ways → Ways
one_of gs [] = None
one_of gs (k ∷ choices) = chosen_way (slice_get gs k) choices

abbrev pub asked_step : goal.Goal-F Ways → Ways
asked_step (goal.All gs) = each_of gs
asked_step (goal.Any gs) = one_of gs
asked_step (goal.Same ps) = λ choices. Some (ps, choices)

-- what a goal asks on a walk from the left: all members of an All, the member of an Any that the next choice names, the
-- pairs of a Same
unfoldable pub asked : Goal → Ways
asked = fold-Goal Ways asked_step

-- under these choices, one for each Any met on the walk and no more, the substitution makes the pairs equal that the
-- goal asks
pub record MeetsGoal (images : List Term) (goal : Goal) (choices : List ℕ) : Type 0 where
  pub pairs : List Pair
  pub all : asked goal choices ≡ Some (pairs, [])
  pub unifies : Unifies images pairs

-- a substitution and choices that meet the goal, or none where no substitution into any list of sorts meets it under
-- any choices
abbrev pub SolvesGoal : Vocabulary → Scope → Goal → Option Solution → Type 0
SolvesGoal v scope goal None = (target : List ℕ) (other : List Term) → IsSubstitution v scope.sorts scope.rigid target other → (choices : List ℕ) → MeetsGoal other goal choices → ⊥
SolvesGoal v scope goal (Some solution) = IsSubstitution v scope.sorts scope.rigid scope.sorts solution.subst × MeetsGoal solution.subst goal solution.choices

abbrev pub has_sort : Option ℕ → Bool
has_sort None = false
has_sort (Some s) = true

-- both sides are well-sorted
abbrev pub pair_sorted : Vocabulary → List ℕ → Pair → Bool
pair_sorted v sorts p = has_sort (sort_of_term v sorts p.left) && has_sort (sort_of_term v sorts p.right)

abbrev pub sorted_step : Vocabulary → List ℕ → goal.Goal-F Bool → Bool
sorted_step v sorts (goal.All gs) = list_all (λ b. b) gs
sorted_step v sorts (goal.Any gs) = list_all (λ b. b) gs
sorted_step v sorts (goal.Same ps) = list_all (pair_sorted v sorts) ps

-- the terms of all pairs of the goal are well-sorted
unfoldable pub goal_sorted : Vocabulary → List ℕ → Goal → Bool
goal_sorted v sorts = fold-Goal Bool (sorted_step v sorts)

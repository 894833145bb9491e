-- Lemmas on what specs/Goals defines.
use Rattle.std.specs.Prelude.{ℕ, ◌≡◌, ◌++◌, Bool, true, false, ◌&&◌, List, [], ◌∷◌, map, slice_get, Option, Some, None}
use Rattle.std.specs.List.{list_all}
use Rattle.std.proofs.Common.{ap, ◌∙◌}
use Rattle.std.proofs.lemmas.List.Folds.{list_all-map}
use Rattle.fof_terms.specs.Vocabulary.{Vocabulary}
use Rattle.fof_terms.specs.Sorts.{sort_of_term}
use Rattle.fof_terms.specs.declared.term.Term.{Term}
use Rattle.unify_terms.specs.declared.pair.Pair.{Pair}
use Rattle.unify_terms.specs.declared.scope.Scope.{Scope}
use Rattle.unify_terms.specs.declared.solving.Solution.{Solution}
use Rattle.unify_terms.specs.declared.goal.Goal.{Goal, All, Any, Same}
use Rattle.unify_terms.specs.declared.goal.Goal.TheFolds.{fold-Goal}
use Rattle.unify_terms.proofs.GoalTrees.{fold-All, fold-Any, fold-Same}
use Rattle.unify_terms.specs.Substitution.{IsSubstitution}
use Rattle.unify_terms.specs.Unifiers.{Unifies}
use Rattle.unify_terms.specs.Goals.{Ways, each_of, one_of, asked_step, asked, pair_sorted, sorted_step, goal_sorted}
use Rattle.unify_terms.specs.declared.goal.Goal.TheOpen as goal

-- The equations of these words.
pub asked-All : (gs : List Goal) → asked (All gs) ≡ each_of (map asked gs)
unfolding asked
asked-All gs = fold-All Ways asked_step gs

pub asked-Any : (gs : List Goal) → asked (Any gs) ≡ one_of (map asked gs)
unfolding asked
asked-Any gs = fold-Any Ways asked_step gs

pub asked-Same : (ps : List Pair) (choices : List ℕ) → asked (Same ps) choices ≡ Some (ps, choices)
unfolding asked
asked-Same ps choices = ap (λ w. w choices) (fold-Same Ways asked_step ps)

pub goal_sorted-All : (v : Vocabulary) (sorts : List ℕ) (gs : List Goal) → goal_sorted v sorts (All gs) ≡ list_all (goal_sorted v sorts) gs
unfolding goal_sorted
goal_sorted-All v sorts gs = fold-All Bool (sorted_step v sorts) gs ∙ list_all-map (λ b. b) _ gs

pub goal_sorted-Any : (v : Vocabulary) (sorts : List ℕ) (gs : List Goal) → goal_sorted v sorts (Any gs) ≡ list_all (goal_sorted v sorts) gs
unfolding goal_sorted
goal_sorted-Any v sorts gs = fold-Any Bool (sorted_step v sorts) gs ∙ list_all-map (λ b. b) _ gs

pub goal_sorted-Same : (v : Vocabulary) (sorts : List ℕ) (ps : List Pair) → goal_sorted v sorts (Same ps) ≡ list_all (pair_sorted v sorts) ps
unfolding goal_sorted
goal_sorted-Same v sorts ps = fold-Same Bool (sorted_step v sorts) ps

pub ruleset goal_sorted_equations = (goal_sorted-All, goal_sorted-Any, goal_sorted-Same)

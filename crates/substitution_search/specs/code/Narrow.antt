-- Needs with fewer ways, for a search that comes before the whole one.
use Rattle.std.specs.Prelude.{ℕ, ◌≡◌, true, List, [], ◌∷◌, map}
use Rattle.std.specs.List.{list_all}
use Rattle.fof_terms.specs.Vocabulary.{Vocabulary}
use Rattle.fof_terms.specs.declared.term.Term.{Term}
use Rattle.unify_terms.specs.declared.pair.Pair.{Pair}
use Rattle.unify_terms.specs.declared.goal.Goal.{Goal}
use Rattle.unify_terms.specs.Goals.{pair_sorted}
use Rattle.substitution_search.specs.code.Ways.{HasWay}
use Rattle.clause_rules.specs.Ways.{goal_of_need}

-- what meets the need meets the whole one, and it is well-sorted where that is
pub record Narrows (whole need : List (List Pair)) : Type 0 where
  pub meets : (images : List Term) → HasWay images need → HasWay images whole
  pub fits : (v : Vocabulary) (scope : List ℕ) → list_all (list_all (pair_sorted v scope)) whole ≡ true → list_all (list_all (pair_sorted v scope)) need ≡ true

-- so it is with the needs at the same places of two lists
abbrev pub NarrowEach : List (List (List Pair)) → List (List (List Pair)) → Type 0
NarrowEach [] [] = Unit {0}
NarrowEach [] (m ∷ ms) = ⊥
NarrowEach (n ∷ ns) [] = ⊥
NarrowEach (n ∷ ns) (m ∷ ms) = Narrows n m × NarrowEach ns ms

-- the goal of a need that narrows the whole one
pub record IsNarrow (whole : List (List Pair)) (goal : Goal) : Type 0 where
  pub need : List (List Pair)
  pub is : goal ≡ goal_of_need need
  pub narrows : Narrows whole need

-- the goals of needs that narrow the whole ones
pub record AreNarrow (whole : List (List (List Pair))) (goals : List Goal) : Type 0 where
  pub needs : List (List (List Pair))
  pub are : goals ≡ map goal_of_need needs
  pub narrow : NarrowEach whole needs

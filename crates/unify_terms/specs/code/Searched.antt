-- A substitution that meets what a search has still to meet and the pairs chosen, for some choices.
use Rattle.std.specs.Prelude.{ℕ, ◌≡◌, ◌++◌, List, [], reverse, Option, Some, None}
use Rattle.fof_terms.specs.Vocabulary.{Vocabulary}
use Rattle.fof_terms.specs.declared.term.Term.{Term}
use Rattle.unify_terms.specs.declared.pair.Pair.{Pair}
use Rattle.unify_terms.specs.declared.scope.Scope.{Scope}
use Rattle.unify_terms.specs.Substitution.{IsSubstitution}
use Rattle.unify_terms.specs.Unifiers.{Unifies}
use Rattle.unify_terms.specs.declared.solving.Solution.{Solution}
use Rattle.unify_terms.specs.Goals.{Ways, asked}

-- under these choices, all of them, the substitution makes the pairs equal that are asked and the given ones
pub record Meets (images : List Term) (given : List Pair) (ways : Ways) (choices : List ℕ) : Type 0 where
  pub asked : List Pair
  pub all : ways choices ≡ Some (asked, [])
  pub unifies : Unifies images (given ++ asked)

abbrev pub Searched : Vocabulary → Scope → List Pair → Ways → Option Solution → Type 0
Searched v scope given ways None = (target : List ℕ) (other : List Term) → IsSubstitution v scope.sorts scope.rigid target other → (choices : List ℕ) → Meets other given ways choices → ⊥
Searched v scope given ways (Some solution) = IsSubstitution v scope.sorts scope.rigid scope.sorts solution.subst × Meets solution.subst given ways (reverse solution.choices)

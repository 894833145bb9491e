-- Lemmas on what specs/code/Searched defines.
use Rattle.std.specs.Prelude.{ℕ, ◌≡◌, ◌<◌, ◌++◌, List, [], reverse, slice_get, Option, Some, None}
use Rattle.fof_terms.specs.Vocabulary.{Vocabulary}
use Rattle.fof_terms.specs.declared.term.Term.{Term}
use Rattle.unify_terms.specs.declared.pair.Pair.{Pair}
use Rattle.unify_terms.specs.declared.scope.Scope.{Scope}
use Rattle.unify_terms.specs.Substitution.{IsSubstitution}
use Rattle.unify_terms.specs.Unifiers.{Unifies}
use Rattle.unify_terms.specs.declared.solving.Solution.{Solution}
use Rattle.unify_terms.specs.declared.goal.Goal.{Goal}
use Rattle.unify_terms.specs.Goals.{Ways, asked, before}
use Rattle.unify_terms.specs.code.Searched.{Searched}

-- none of the first goals leads to a substitution
abbrev pub NoneOf : Vocabulary → Scope → List Pair → List Goal → Ways → ℕ → Type 0
NoneOf v scope given goals next n = (k : ℕ) (g : Goal) → k < n → slice_get goals k ≡ Some g → Searched v scope given (before (asked g) next) None

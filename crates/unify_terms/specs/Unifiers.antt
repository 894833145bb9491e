-- Unifiers of pairs of terms, and which of them are most general.
use Rattle.std.specs.Prelude.{ℕ, ◌≡◌, ◌≢◌, ◌<◌, List, [], ◌∷◌, length, Option, Some, None}
use Rattle.fof_terms.specs.Vocabulary.{Vocabulary}
use Rattle.fof_terms.specs.Sorts.{sort_of_term}
use Rattle.fof_terms.specs.declared.term.Term.{Term}
use Rattle.unify_terms.specs.declared.pair.Pair.{Pair}
use Rattle.unify_terms.specs.Substitution.{image_at, instance, IsSubstitution}

-- the instances of both sides of each pair are equal
abbrev pub Unifies : List Term → List Pair → Type 0
Unifies images [] = Unit {0}
Unifies images (p ∷ pairs) = (instance images p.left ≡ instance images p.right) × Unifies images pairs

-- both sides of each pair are well-sorted
abbrev pub AreSorted : Vocabulary → List ℕ → List Pair → Type 0
AreSorted v sorts [] = Unit {0}
AreSorted v sorts (p ∷ pairs) = ((sort_of_term v sorts p.left ≢ None) × (sort_of_term v sorts p.right ≢ None)) × AreSorted v sorts pairs

-- a substitution is the given one, followed by some other
pub record IsInstanceOf (v : Vocabulary) (sorts : List ℕ) (rigid : ℕ) (target : List ℕ) (general images : List Term) : Type 0 where
  pub by : List Term
  pub is_substitution : IsSubstitution v sorts rigid target by
  pub instances : (k : ℕ) → k < length sorts → image_at images k ≡ instance by (image_at general k)

pub record IsMostGeneral (v : Vocabulary) (sorts : List ℕ) (rigid : ℕ) (pairs : List Pair) (images : List Term) : Type 0 where
  pub is_substitution : IsSubstitution v sorts rigid sorts images
  pub unifies : Unifies images pairs
  pub general : (target : List ℕ) (other : List Term) → IsSubstitution v sorts rigid target other → Unifies other pairs → IsInstanceOf v sorts rigid target images other

-- a most general unifier, or none where there is none
abbrev pub Unified : Vocabulary → List ℕ → ℕ → List Pair → Option (List Term) → Type 0
Unified v sorts rigid pairs None = (target : List ℕ) (other : List Term) → IsSubstitution v sorts rigid target other → Unifies other pairs → ⊥
Unified v sorts rigid pairs (Some images) = IsMostGeneral v sorts rigid pairs images

-- Lemmas on what specs/code/Solved defines.
use Rattle.std.specs.Prelude.{ℕ, ◌≡◌, ◌<◌, List, [], Option, Some, None, length}
use Rattle.fof_terms.specs.Vocabulary.{Vocabulary}
use Rattle.fof_terms.specs.declared.term.Term.{Term}
use Rattle.unify_terms.specs.declared.node.Node.{Node}
use Rattle.unify_terms.specs.code.Graph.{term_at}
use Rattle.unify_terms.specs.code.Classes.{Joins, Closing}
use Rattle.unify_terms.specs.code.Order.{Orders}
use Rattle.unify_terms.specs.declared.unification.Arrangement.{Arrangement}
use Rattle.unify_terms.specs.Substitution.{IsSubstitution, image_at, instance}
use Rattle.unify_terms.specs.code.Solved.{value_at}

pub record IsGeneral (v : Vocabulary) (sorts : List ℕ) (rigid : ℕ) (nodes : List Node) (pairs : List (ℕ × ℕ)) (images : List Term) : Type 0 where
  pub is_substitution : IsSubstitution v sorts rigid sorts images
  pub joins : Joins (value_at nodes images) pairs
  pub general : (target : List ℕ) (other : List Term) → IsSubstitution v sorts rigid target other → Joins (value_at nodes other) pairs → (k : ℕ) → k < length sorts → image_at other k ≡ instance other (image_at images k)

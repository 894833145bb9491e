-- Pairs of nodes that have one value under a substitution.
use Rattle.std.specs.Prelude.{ℕ, List, [], Option, Some, None}
use Rattle.fof_terms.specs.Vocabulary.{Vocabulary}
use Rattle.fof_terms.specs.declared.term.Term.{Term}
use Rattle.unify_terms.specs.declared.node.Node.{Node}
use Rattle.unify_terms.specs.code.Graph.{term_at}
use Rattle.unify_terms.specs.code.Classes.{Joins, Closing}
use Rattle.unify_terms.specs.code.Order.{Orders}
use Rattle.unify_terms.specs.declared.unification.Arrangement.{Arrangement}
use Rattle.unify_terms.specs.Substitution.{IsSubstitution, instance}

-- the value of a node under a substitution
abbrev pub value_at : List Node → List Term → ℕ → Term
value_at nodes images i = instance images (term_at nodes i)

-- the nodes of both sides have one value under no substitution
abbrev pub Unsolvable : Vocabulary → List ℕ → ℕ → List Node → List (ℕ × ℕ) → Type 0
Unsolvable v sorts rigid nodes pairs = (target : List ℕ) (other : List Term) → IsSubstitution v sorts rigid target other → Joins (value_at nodes other) pairs → ⊥

-- classes that the pairs ask for in an order, or that there is no substitution
abbrev pub Arranged : Vocabulary → List ℕ → ℕ → List Node → List (ℕ × ℕ) → Option Arrangement → Type 0
Arranged v sorts rigid nodes pairs None = Unsolvable v sorts rigid nodes pairs
Arranged v sorts rigid nodes pairs (Some found) = Closing v sorts nodes pairs found.classes.items [] × Orders nodes found.classes.items (Some found.order)

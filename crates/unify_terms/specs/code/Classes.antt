-- Classes of nodes that have equal values.
use Rattle.std.specs.Prelude.{ℕ, ◌≡◌, ◌==◌, ◌<◌, List, [], ◌∷◌, length, map, slice_get, get_or, Option, Some, None}
use Rattle.std.specs.Prelude.{if◌then◌else◌, ◌⊎◌}
use Rattle.std.specs.Borrow.{Bor}
use Rattle.fof_terms.specs.Vocabulary.{Vocabulary}
use Rattle.fof_terms.specs.Sorts.{sort_of_term}
use Rattle.fof_terms.specs.declared.term.Term.{Term, Var, App}
use Rattle.unify_terms.specs.declared.node.Node.{Node}
use Rattle.unify_terms.specs.declared.node.Node.TheVariants.{Open, Rigid, Function}
use Rattle.unify_terms.specs.code.Graph.{term_at}

abbrev pub moved : ℕ → ℕ → ℕ → ℕ
moved from to i = if i == from then to else i

-- the pairs of members at one place
abbrev pub pairs_of : List ℕ → List ℕ → List (ℕ × ℕ)
pairs_of [] ys = []
pairs_of (x ∷ xs) [] = []
pairs_of (x ∷ xs) (y ∷ ys) = (x, y) ∷ pairs_of xs ys

abbrev pub AllBelow : ℕ → List (ℕ × ℕ) → Type 0
AllBelow n [] = Unit {0}
AllBelow n (p ∷ ps) = ((p.0 < n) × (p.1 < n)) × AllBelow n ps

-- the members of each pair have one value
abbrev pub Joins : {X : Type 0} → (ℕ → X) → List (ℕ × ℕ) → Type 0
Joins value [] = Unit {0}
Joins value (p ∷ ps) = (value p.0 ≡ value p.1) × Joins value ps

-- the class of a node
abbrev pub class_of : List ℕ → ℕ → ℕ
class_of classes i = get_or classes i 0

-- each of the first n nodes has the value of its class
abbrev pub Agrees : {X : Type 0} → (ℕ → X) → ℕ → List ℕ → Type 0
Agrees value n classes = (i : ℕ) → i < n → value i ≡ value (class_of classes i)

-- what a substitution makes of the nodes, over variables of the sorts `target`
pub record IsValuation (v : Vocabulary) (sorts target : List ℕ) (nodes : List Node) (value : ℕ → Term) : Type 0 where
  pub functions : (i f : ℕ) (args : Bor (List Term)) (numbers : List ℕ) → slice_get nodes i ≡ Some (Function f args numbers) → value i ≡ App f (map value numbers)
  pub rigids : (i : ℕ) → slice_get nodes i ≡ Some Rigid → value i ≡ Var i
  pub sorted : (i : ℕ) → i < length nodes → sort_of_term v target (value i) ≡ sort_of_term v sorts (term_at nodes i)

-- no substitution gives the two nodes one value
abbrev pub Clash : Vocabulary → List ℕ → List Node → ℕ → ℕ → Type 0
Clash v sorts nodes left right = (target : List ℕ) (value : ℕ → Term) → IsValuation v sorts target nodes value → value left ≡ value right → ⊥

-- both are functions of one symbol, with as many arguments
pub record OneHead (nodes : List Node) (from to : ℕ) : Type 0 where
  pub symbol : ℕ
  pub from_args : Bor (List Term)
  pub from_numbers : List ℕ
  pub to_args : Bor (List Term)
  pub to_numbers : List ℕ
  pub from_is : slice_get nodes from ≡ Some (Function symbol from_args from_numbers)
  pub to_is : slice_get nodes to ≡ Some (Function symbol to_args to_numbers)
  pub same_length : length from_numbers ≡ length to_numbers

-- the class `from` may go into the class `to`
pub record MayJoin (v : Vocabulary) (sorts : List ℕ) (nodes : List Node) (from to : ℕ) : Type 0 where
  pub sorted : sort_of_term v sorts (term_at nodes from) ≡ sort_of_term v sorts (term_at nodes to)
  pub heads : (slice_get nodes from ≡ Some Open) ⊎ OneHead nodes from to

-- which of two classes goes into the other, or that neither may
abbrev pub Chosen : Vocabulary → List ℕ → List Node → ℕ → ℕ → Option (ℕ × ℕ) → Type 0
Chosen v sorts nodes left right None = Clash v sorts nodes left right
Chosen v sorts nodes left right (Some p) = ((p ≡ (left, right)) ⊎ (p ≡ (right, left))) × MayJoin v sorts nodes p.0 p.1

-- where value follows a node's class, so it does its arguments
abbrev pub Congruent : (ℕ → ℕ) → List Node → List ℕ → Type 0
Congruent color nodes classes = (i f : ℕ) (args : Bor (List Term)) (numbers : List ℕ) → slice_get nodes i ≡ Some (Function f args numbers)
    → (others : Bor (List Term)) × (more : List ℕ) × (slice_get nodes (class_of classes i) ≡ Some (Function f others more)) × (map color numbers ≡ map color more)

-- the classes so far, where the pairs in `work` are still to be joined
pub record Closing (v : Vocabulary) (sorts : List ℕ) (nodes : List Node) (pairs : List (ℕ × ℕ)) (classes : List ℕ) (work : List (ℕ × ℕ)) : Type 0 where
  pub size : length classes ≡ length nodes
  pub below : AllBelow (length nodes) work
  pub within : (i : ℕ) → i < length nodes → class_of classes i < length nodes
  pub settled : (i : ℕ) → i < length nodes → class_of classes (class_of classes i) ≡ class_of classes i
  pub sorted : (i : ℕ) → i < length nodes → sort_of_term v sorts (term_at nodes (class_of classes i)) ≡ sort_of_term v sorts (term_at nodes i)
  pub rigids : (i : ℕ) → slice_get nodes i ≡ Some Rigid → class_of classes i ≡ i
  pub sound : (color : ℕ → ℕ) → Agrees color (length nodes) classes → Joins color work → Congruent color nodes classes × Joins color pairs
  pub complete : (target : List ℕ) (value : ℕ → Term) → IsValuation v sorts target nodes value → Joins value pairs → Agrees value (length nodes) classes × Joins value work

-- the classes that the pairs ask for, if any
abbrev pub Closes : Vocabulary → List ℕ → List Node → List (ℕ × ℕ) → Option (List ℕ) → Type 0
Closes v sorts nodes pairs None = (target : List ℕ) (value : ℕ → Term) → IsValuation v sorts target nodes value → Joins value pairs → ⊥
Closes v sorts nodes pairs (Some classes) = Closing v sorts nodes pairs classes []

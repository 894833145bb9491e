-- An order of the classes in which the arguments stand first.
use Rattle.std.specs.Prelude.{ℕ, ◌≡◌, ◌<◌, List, [], ◌∷◌, length, reverse, get_or, Option, Some, None, Bool, true}
use Rattle.std.specs.Prelude.{false, suc, ◌⊎◌}
use Rattle.std.specs.List.{list_all}
use Rattle.fof_terms.specs.Vocabulary.{Vocabulary}
use Rattle.fof_terms.specs.declared.term.Term.{Term}
use Rattle.unify_terms.specs.declared.node.Node.{Node}
use Rattle.unify_terms.specs.code.Graph.{Below, numbers_at}
use Rattle.unify_terms.specs.code.Classes.{class_of, Agrees, IsValuation}

-- the classes are those of the nodes
pub record Fits (nodes : List Node) (classes : List ℕ) : Type 0 where
  pub size : length classes ≡ length nodes
  pub within : (i : ℕ) → i < length nodes → class_of classes i < length nodes
  pub settled : (i : ℕ) → i < length nodes → class_of classes (class_of classes i) ≡ class_of classes i
  pub numbers : (i : ℕ) → Below (length nodes) (numbers_at nodes i)

abbrev pub is_done : List Bool → ℕ → Bool
is_done done i = get_or done i false

-- the classes of all these nodes are done
abbrev pub all_done : List ℕ → List Bool → List ℕ → Bool
all_done classes done numbers = list_all (λ j. is_done done (class_of classes j)) numbers

-- a class that is not done, but those of its arguments are
pub record IsReady (nodes : List Node) (classes : List ℕ) (done : List Bool) (i : ℕ) : Type 0 where
  pub within : i < length nodes
  pub own : class_of classes i ≡ i
  pub fresh : is_done done i ≡ false
  pub numbers : all_done classes done (numbers_at nodes i) ≡ true

pub record IsLeft (nodes : List Node) (classes : List ℕ) (done : List Bool) (i : ℕ) : Type 0 where
  pub within : i < length nodes
  pub own : class_of classes i ≡ i
  pub fresh : is_done done i ≡ false

abbrev pub Among : ℕ → List ℕ → Type 0
Among i [] = ⊥
Among i (r ∷ rest) = (i ≡ r) ⊎ Among i rest

abbrev pub AllAmong : List ℕ → List ℕ → List ℕ → Type 0
AllAmong classes [] rest = Unit {0}
AllAmong classes (j ∷ numbers) rest = Among (class_of classes j) rest × AllAmong classes numbers rest

-- the class comes after those of its arguments
pub record Follows (nodes : List Node) (classes : List ℕ) (r : ℕ) (rest : List ℕ) : Type 0 where
  pub within : r < length nodes
  pub own : class_of classes r ≡ r
  pub fresh : Among r rest → ⊥
  pub numbers : AllAmong classes (numbers_at nodes r) rest

-- each class comes after those of its arguments, the last one first
abbrev pub Ordered : List Node → List ℕ → List ℕ → Type 0
Ordered nodes classes [] = Unit {0}
Ordered nodes classes (r ∷ rest) = Follows nodes classes r rest × Ordered nodes classes rest

-- the order so far
pub record Ordering (nodes : List Node) (classes : List ℕ) (done : List Bool) (order : List ℕ) : Type 0 where
  pub size : length done ≡ length nodes
  pub ordered : Ordered nodes classes (reverse order)
  pub forth : (i : ℕ) → is_done done i ≡ true → Among i (reverse order)
  pub back : (i : ℕ) → Among i (reverse order) → is_done done i ≡ true
  pub below : Below (length nodes) order

-- an order of all classes, or that no substitution agrees with them
abbrev pub Orders : List Node → List ℕ → Option (List ℕ) → Type 0
Orders nodes classes None = (v : Vocabulary) (sorts target : List ℕ) (value : ℕ → Term) → IsValuation v sorts target nodes value → Agrees value (length nodes) classes → ⊥
Orders nodes classes (Some order) = Below (length nodes) order × Ordered nodes classes (reverse order) × ((i : ℕ) → i < length nodes → class_of classes i ≡ i → Among i (reverse order))

-- how many are not done
abbrev pub undone : List Bool → ℕ
undone [] = 0
undone (true ∷ done) = undone done
undone (false ∷ done) = suc (undone done)

-- after a walk over the first classes: some were added to the order, or nothing changed and none of them comes next
abbrev pub Walked : List Node → List ℕ → List Bool → List Bool → ℕ → Bool → Type 0
Walked nodes classes old done n true = undone done < undone old
Walked nodes classes old done n false = (done ≡ old) × ((i : ℕ) → i < n → IsReady nodes classes done i → ⊥)

-- after a walk over all classes
abbrev pub Passed : List Node → List ℕ → List Bool → List Bool → List ℕ → Bool → Type 0
Passed nodes classes old done order any = Ordering nodes classes done order × Walked nodes classes old done (length nodes) any

-- Nodes: the variables of a scope, and terms with the numbers of their arguments' nodes.
use Rattle.std.specs.Prelude.{ℕ, ◌≡◌, ◌≢◌, ◌<◌, ◌≤◌, ◌++◌, List, [], ◌∷◌, length, map, slice_get, ◌⊎◌, Bool, false}
use Rattle.std.specs.Prelude.{◌==◌, ◌&&◌, Option, Some, None}
use Rattle.std.specs.Option.{option_map}
use Rattle.std.specs.Borrow.{Bor}
use Rattle.fof_terms.specs.Vocabulary.{Vocabulary}
use Rattle.fof_terms.specs.Sorts.{sort_of_term}
use Rattle.fof_terms.specs.declared.term.Term.{Term, Var, App}
use Rattle.unify_terms.specs.declared.pair.Pair.{Pair}
use Rattle.unify_terms.specs.Unifiers.{AreSorted}
use Rattle.unify_terms.specs.declared.node.Node.{Node}
use Rattle.unify_terms.specs.declared.node.Node.TheVariants.{Open, Rigid, Function}

-- the term of a node at place i
abbrev pub term_of : Option Node → ℕ → Term
term_of (Some (Function f args numbers)) i = App f args.now
term_of (Some Open) i = Var i
term_of (Some Rigid) i = Var i
term_of None i = Var i

abbrev pub term_at : List Node → ℕ → Term
term_at nodes i = term_of (slice_get nodes i) i

-- the numbers of a node's arguments
abbrev pub numbers_of : Option Node → List ℕ
numbers_of (Some (Function f args numbers)) = numbers
numbers_of (Some Open) = []
numbers_of (Some Rigid) = []
numbers_of None = []

abbrev pub numbers_at : List Node → ℕ → List ℕ
numbers_at nodes i = numbers_of (slice_get nodes i)

-- each number is below n
abbrev pub Below : ℕ → List ℕ → Type 0
Below n [] = Unit {0}
Below n (i ∷ is) = (i < n) × Below n is

-- the sort that a node's term has, if it has any
abbrev pub head_sort_of : Vocabulary → List ℕ → Option Node → ℕ → Option ℕ
head_sort_of v sorts (Some (Function f args numbers)) i = option_map (λ s. s.result) (slice_get v.symbols f)
head_sort_of v sorts (Some Open) i = slice_get sorts i
head_sort_of v sorts (Some Rigid) i = slice_get sorts i
head_sort_of v sorts None i = slice_get sorts i

abbrev pub head_sort : Vocabulary → List ℕ → List Node → ℕ → Option ℕ
head_sort v sorts nodes i = head_sort_of v sorts (slice_get nodes i) i

-- both are functions of one symbol, with as many arguments
abbrev pub one_head : Option Node → Option Node → Bool
one_head (Some (Function f args numbers)) (Some (Function g others more)) = (f == g) && (length numbers == length more)
one_head (Some (Function f args numbers)) (Some Open) = false
one_head (Some (Function f args numbers)) (Some Rigid) = false
one_head (Some (Function f args numbers)) None = false
one_head (Some Open) b = false
one_head (Some Rigid) b = false
one_head None b = false

pub record IsGraph (v : Vocabulary) (sorts : List ℕ) (rigid : ℕ) (nodes : List Node) : Type 0 where
  pub variables : length sorts ≤ length nodes
  pub opens : (i : ℕ) → slice_get nodes i ≡ Some Open → (i < length sorts) × (rigid ≤ i)
  pub rigids : (i : ℕ) → slice_get nodes i ≡ Some Rigid → (i < length sorts) × (i < rigid)
  pub function : (i f : ℕ) (args : Bor (List Term)) (numbers : List ℕ) → slice_get nodes i ≡ Some (Function f args numbers)
      → (length sorts ≤ i) × (args.now ≡ map (term_at nodes) numbers) × Below (length nodes) numbers
  pub sorted : (i : ℕ) → i < length nodes → sort_of_term v sorts (term_at nodes i) ≢ None

-- the nodes of the variables alone
abbrev pub AreVariables : List ℕ → ℕ → List Node → Type 0
AreVariables sorts rigid nodes = (length nodes ≡ length sorts) × ((i : ℕ) → i < length nodes → ((i < rigid) × (slice_get nodes i ≡ Some Rigid)) ⊎ ((rigid ≤ i) × (slice_get nodes i ≡ Some Open)))

-- `new` has the nodes of `old`, and some for the term
pub record Added (v : Vocabulary) (sorts : List ℕ) (rigid : ℕ) (old : List Node) (term : Term) (new : List Node) (number : ℕ) : Type 0 where
  pub graph : IsGraph v sorts rigid new
  pub more : List Node
  pub extends : new ≡ old ++ more
  pub below : number < length new
  pub is : term_at new number ≡ term

pub record AddedAll (v : Vocabulary) (sorts : List ℕ) (rigid : ℕ) (old : List Node) (terms : List Term) (new : List Node) (numbers : List ℕ) : Type 0 where
  pub graph : IsGraph v sorts rigid new
  pub more : List Node
  pub extends : new ≡ old ++ more
  pub below : Below (length new) numbers
  pub are : map (term_at new) numbers ≡ terms

-- the terms are well-sorted
abbrev pub Fit : Vocabulary → List ℕ → List Term → Type 0
Fit v sorts [] = Unit {0}
Fit v sorts (t ∷ ts) = (sort_of_term v sorts t ≢ None) × Fit v sorts ts

abbrev pub IsAdded : List Node → Term → List Node → ℕ → Type 0
IsAdded old term new number = (v : Vocabulary) (sorts : List ℕ) (rigid : ℕ) → IsGraph v sorts rigid old → sort_of_term v sorts term ≢ None → Added v sorts rigid old term new number

abbrev pub AreAdded : List Node → List Term → List Node → List ℕ → Type 0
AreAdded old terms new numbers = (v : Vocabulary) (sorts : List ℕ) (rigid : ℕ) → IsGraph v sorts rigid old → Fit v sorts terms → AddedAll v sorts rigid old terms new numbers

-- the numbers of the nodes of both sides of each pair
abbrev pub Stand : List Node → List Pair → List (ℕ × ℕ) → Type 0
Stand nodes [] [] = Unit {0}
Stand nodes [] (n ∷ numbers) = ⊥
Stand nodes (p ∷ pairs) [] = ⊥
Stand nodes (p ∷ pairs) (n ∷ numbers) = ((n.0 < length nodes) × (n.1 < length nodes) × (term_at nodes n.0 ≡ p.left) × (term_at nodes n.1 ≡ p.right)) × Stand nodes pairs numbers

pub record AddedPairs (v : Vocabulary) (sorts : List ℕ) (rigid : ℕ) (pairs : List Pair) (new : List Node) (numbers : List (ℕ × ℕ)) : Type 0 where
  pub graph : IsGraph v sorts rigid new
  pub stand : Stand new pairs numbers

abbrev pub ArePairsAdded : List Node → List Pair → List Node → List (ℕ × ℕ) → Type 0
ArePairsAdded old pairs new numbers = (v : Vocabulary) (sorts : List ℕ) (rigid : ℕ) → IsGraph v sorts rigid old → AreSorted v sorts pairs → AddedPairs v sorts rigid pairs new numbers

-- where these nodes and numbers came from some given pairs, the new ones come from those and then `pairs`
abbrev pub AddsPairs : List Pair → List Node → List (ℕ × ℕ) → List Node → List (ℕ × ℕ) → Type 0
AddsPairs pairs mid numbers new more = (old : List Node) (given : List Pair) → ArePairsAdded old given mid numbers → ArePairsAdded old (given ++ pairs) new more

-- the nodes and numbers are those of the pairs, where these are well-sorted
abbrev pub IsGraphOf : List ℕ → ℕ → List Pair → List Node → List (ℕ × ℕ) → Type 0
IsGraphOf sorts rigid pairs nodes numbers = (v : Vocabulary) → AreSorted v sorts pairs → AddedPairs v sorts rigid pairs nodes numbers

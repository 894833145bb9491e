-- The images of classes, made along an order.
use Rattle.std.specs.Prelude.{ℕ, ◌≡◌, ◌<◌, ◌==◌, ◌^◌, if◌then◌else◌, Bool, true, List, [], ◌∷◌, length, map, get_or}
use Rattle.std.specs.Prelude.{slice_get, Option, Some, None}
use Rattle.fof_terms.specs.declared.term.Term.{Term, Var, App}
use Rattle.unify_terms.specs.declared.node.Node.{Node}
use Rattle.unify_terms.specs.declared.node.Node.TheVariants.{Open, Rigid, Function}
use Rattle.unify_terms.specs.code.Classes.{class_of}
use Rattle.unify_terms.specs.code.Graph.{numbers_at}
use Rattle.unify_terms.specs.code.Order.{is_done, all_done}

-- the image of a node, from those of its arguments' classes
abbrev pub made_of : Option Node → List ℕ → (ℕ → Term) → ℕ → Term
made_of (Some (Function f args numbers)) classes image i = App f (map (λ j. image (class_of classes j)) numbers)
made_of (Some Open) classes image i = Var i
made_of (Some Rigid) classes image i = Var i
made_of None classes image i = Var i

abbrev pub made : List Node → List ℕ → (ℕ → Term) → ℕ → Term
made nodes classes image i = made_of (slice_get nodes i) classes image i

-- the images after these classes, the last of which stands first
abbrev pub image_in : List Node → List ℕ → List ℕ → ℕ → Term
image_in nodes classes [] i = Var 0
image_in nodes classes (r ∷ rest) i = if i == r then made nodes classes (image_in nodes classes rest) r else image_in nodes classes rest i

-- the variables are few enough for their numbers
pub record FewVariables (nodes : List Node) : Type 0 where
  pub opens : (i : ℕ) → slice_get nodes i ≡ Some Open → i < 2 ^ 32
  pub rigids : (i : ℕ) → slice_get nodes i ≡ Some Rigid → i < 2 ^ 32

-- with each class that is marked those of its arguments are
abbrev pub IsClosed : List Node → List ℕ → List Bool → Type 0
IsClosed nodes classes needed = (i : ℕ) → i < length nodes → is_done needed i ≡ true → all_done classes needed (numbers_at nodes i) ≡ true

-- the images of the classes that are marked
pub record AreNeeded (nodes : List Node) (classes : List ℕ) (needed : List Bool) (order : List ℕ) (images : List Term) : Type 0 where
  pub size : length images ≡ length nodes
  pub are : (i : ℕ) → i < length nodes → is_done needed i ≡ true → get_or images i (Var 0) ≡ image_in nodes classes order i

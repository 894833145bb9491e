-- The order in which a derivation can be checked: it takes repeatedly the first line whose parents are all taken.
use Rattle.std.specs.Prelude.{ℕ, ◌≡◌, ⊤, ◌+◌, ◌==◌, ◌&&◌, Bool, true, not, List, [], ◌∷◌, ◌++◌, Option, None, Some}
use Rattle.std.specs.Prelude.{if◌then◌else◌}
use Rattle.std.specs.List.{list_any, list_all}
use Rattle.tstp_graph.specs.declared.shape.Ref.{Ref}
use Rattle.tstp_graph.specs.declared.shape.Ref.TheVariants.{Line, Given}
use Rattle.tstp_graph.specs.declared.shape.Node.{Node}

-- the number is among those taken
abbrev pub is_taken : List ℕ → ℕ → Bool
is_taken order number = list_any (λ one. one == number) order

-- a parent is taken; a given formula always is
abbrev pub is_done : (ℕ → Bool) → Ref → Bool
is_done taken (Line number) = taken number
is_done taken (Given number) = true

-- the node of this number is not taken, and its parents all are
abbrev pub is_ready : (ℕ → Bool) → ℕ → Node → Bool
is_ready taken number node = not (taken number) && list_all (is_done taken) node.parents

-- the first node that is ready, of these nodes, which are numbered from this number on
abbrev pub first_ready : (ℕ → Bool) → ℕ → List Node → Option ℕ
first_ready taken number [] = None
first_ready taken number (node ∷ nodes) = if is_ready taken number node then Some number else first_ready taken (number + 1) nodes

-- behind those that are taken each of these is the first that is ready
abbrev pub TakesInTurn : List Node → List ℕ → List ℕ → Type 0
TakesInTurn nodes taken [] = ⊤
TakesInTurn nodes taken (number ∷ later) = (first_ready (is_taken taken) 0 nodes ≡ Some number) × TakesInTurn nodes (taken ++ number ∷ []) later

-- The order: each of it is the first that is ready behind those before it, and behind them all none is ready.
pub record IsOrder (nodes : List Node) (order : List ℕ) : Type 0 where
  pub in_turn : TakesInTurn nodes [] order
  pub until_none : first_ready (is_taken order) 0 nodes ≡ None

-- the first node that is not taken, of these nodes, which are numbered from this number on
abbrev pub first_left : (ℕ → Bool) → ℕ → List Node → Option ℕ
first_left taken number [] = None
first_left taken number (node ∷ nodes) = if taken number then first_left taken (number + 1) nodes else Some number

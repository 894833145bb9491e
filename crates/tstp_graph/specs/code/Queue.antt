-- Where the nodes that are not taken stand while an order is searched: among those that are ready, or behind a parent
-- that is not taken.
use Rattle.std.specs.Prelude.{ℕ, ◌≡◌, ◌≢◌, ◌⊎◌, ◌<◌, ◌≤◌, ◌==◌, ◌||◌, Bool, true, false, List, [], ◌∷◌, ◌++◌, length}
use Rattle.std.specs.Prelude.{take, get_or, slice_get, Some}
use Rattle.std.specs.List.{list_any, list_all, All}
use Rattle.std.specs.Ordering.{nat_cmp}
use Rattle.std.specs.BTreeSet.{BTreeSet, contains}
use Rattle.tstp_graph.specs.declared.shape.Ref.{Ref}
use Rattle.tstp_graph.specs.declared.shape.Node.{Node}
use Rattle.tstp_graph.specs.declared.queue.Waiter.{Waiter}
use Rattle.tstp_graph.specs.declared.queue.Missing.{Missing}
use Rattle.tstp_graph.specs.Order.{is_done, is_ready}
use Rattle.tstp_graph.specs.code.Flags.{cites}

-- the nodes that wait for a line
abbrev pub waiters_of : List (List Waiter) → ℕ → List Waiter
waiters_of waiting line = get_or waiting line []

-- the node of this number is among them
abbrev pub has_number : List Waiter → ℕ → Bool
has_number waiters number = list_any (λ (waiter : Waiter). waiter.number == number) waiters

-- no number, and one number more
abbrev pub no_number : ℕ → Bool
no_number number = false

abbrev pub with_number : ℕ → (ℕ → Bool) → ℕ → Bool
with_number one others number = (one == number) || others number

-- A parent that is not taken, the first behind those before a place.
pub record IsMissing (parents : List Ref) (taken : ℕ → Bool) (missing : Missing) : Type 0 where
  pub cited : cites parents missing.line ≡ true
  pub left : taken missing.line ≡ false
  pub before : list_all (is_done taken) (take missing.place parents) ≡ true

-- A node is not taken, and its parents before a place all are.
pub record IsLoose (nodes : List Node) (taken : ℕ → Bool) (waiter : Waiter) : Type 0 where
  pub within : waiter.number < length nodes
  pub node : Node
  pub at : slice_get nodes waiter.number ≡ Some node
  pub before : list_all (is_done taken) (take waiter.place node.parents) ≡ true
  pub left : taken waiter.number ≡ false

-- Such a node, which has this line as a parent.
pub record IsWaiter (nodes : List Node) (taken : ℕ → Bool) (line : ℕ) (waiter : Waiter) : Type 0 where
  pub loose : IsLoose nodes taken waiter
  pub cited : cites loose.node.parents line ≡ true

-- A node is ready.
pub record IsFree (nodes : List Node) (taken : ℕ → Bool) (number : ℕ) : Type 0 where
  pub node : Node
  pub within : number < length nodes
  pub at : slice_get nodes number ≡ Some node
  pub ready : is_ready taken number node ≡ true

-- A node has a parent that is not taken; where that is one of the nodes, it waits there.
pub record Waits (nodes : List Node) (taken : ℕ → Bool) (waiting : List (List Waiter)) (number : ℕ) : Type 0 where
  pub node : Node
  pub at : slice_get nodes number ≡ Some node
  pub line : ℕ
  pub cited : cites node.parents line ≡ true
  pub left : taken line ≡ false
  pub listed : line < length nodes → has_number (waiters_of waiting line) number ≡ true

-- Those that are ready are nodes that are ready, those that wait for a line that is not taken have it as a parent, and
-- each node that is not taken is pending, ready or waits.
pub record IsQueue (nodes : List Node) (taken pending : ℕ → Bool) (ready : BTreeSet ℕ) (waiting : List (List Waiter)) : Type 0 where
  pub len : length waiting ≡ length nodes
  pub free : (number : ℕ) → contains nat_cmp ready number ≡ true → IsFree nodes taken number
  pub waits : (line : ℕ) → taken line ≡ false → All (IsWaiter nodes taken line) (waiters_of waiting line)
  pub placed : (number : ℕ) → number < length nodes → taken number ≡ false → (pending number ≡ true) ⊎ ((contains nat_cmp ready number ≡ true) ⊎ Waits nodes taken waiting number)

-- whatever else is pending, the node of this number is no longer
abbrev pub Settles : List Node → (ℕ → Bool) → ℕ → BTreeSet ℕ → List (List Waiter) → BTreeSet ℕ → List (List Waiter) → Type 0
Settles nodes taken number ready waiting new_ready new_waiting =
    (pending : ℕ → Bool) → IsQueue nodes taken (with_number number pending) ready waiting → IsQueue nodes taken pending new_ready new_waiting

-- One more waits for a line, if there is such a line.
pub record AddsWaiter (old : List (List Waiter)) (line : ℕ) (waiter : Waiter) (new : List (List Waiter)) : Type 0 where
  pub len : length new ≡ length old
  pub here : line < length old → waiters_of new line ≡ waiters_of old line ++ waiter ∷ []
  pub absent : length old ≤ line → waiters_of new line ≡ []
  pub others : (other : ℕ) → other ≢ line → waiters_of new other ≡ waiters_of old other

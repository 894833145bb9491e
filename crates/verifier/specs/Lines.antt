-- The lines of a derivation (the TSTP part of the TPTP language): what each is from, as formulas with their numbers in
-- a theory. The given formulas come first in the theory, in their order.
use Rattle.std.specs.Prelude.{ℕ, ◌≡◌, ◌+◌, Bool, true, false, List, [], ◌∷◌, Option, None, Some, slice_get}
use Rattle.fof_terms.specs.declared.form.Form.{Form}
use Rattle.clause_form.specs.declared.path.Parent.{Parent}
use Rattle.kernel.specs.Statements.{Statements}
use Rattle.tstp_graph.specs.declared.shape.Node.{Node}
use Rattle.tstp_graph.specs.declared.shape.Ref.{Ref}
use Rattle.tstp_graph.specs.declared.shape.Ref.TheVariants as ref

-- The lines of a derivation over given formulas, in the order of the text: the nodes of its graph, and the formula of
-- each, which is what the line denotes, negated where its role is conjecture. A search for one of them keeps so many
-- clauses at most.
pub record Derivation : Type 0 where
  pub given : List Form
  pub nodes : List Node
  pub forms : List Form
  pub limit : ℕ

-- a line: its node in the graph, and its formula
pub record Line : Type 0 where
  pub node : Node
  pub form : Form

-- the line stands at this place in the text
pub record IsLineAt (d : Derivation) (place : ℕ) (line : Line) : Type 0 where
  pub node : slice_get d.nodes place ≡ Some line.node
  pub form : slice_get d.forms place ≡ Some line.form

-- a formula with its number in a theory
abbrev pub numbered : ℕ → Form → Parent
numbered number form = record { number = number; form = form }

-- the given formulas with their numbers, from this number on
abbrev pub given_from : ℕ → List Form → List Parent
given_from number [] = []
given_from number (form ∷ forms) = numbered number form ∷ given_from (number + 1) forms

-- a formula that has this number, if there is one
abbrev pub with_number : ℕ → Option Form → Option Parent
with_number number None = None
with_number number (Some form) = Some (numbered number form)

-- a line's formula with its number, if there is such a line and it is accepted
abbrev pub accepted : Option (Option ℕ) → Option Form → Option Parent
accepted None form = None
accepted (Some None) form = None
accepted (Some (Some number)) form = with_number number form

-- A parent with its number, if it is given or accepted: by the given formulas, the formulas of the lines, and the
-- numbers of the lines that are accepted so far, by their places in the text.
abbrev pub parent_of : List Form → List Form → List (Option ℕ) → Ref → Option Parent
parent_of given forms numbers (ref.Given place) = with_number place (slice_get given place)
parent_of given forms numbers (ref.Line place) = accepted (slice_get numbers place) (slice_get forms place)

-- the formula of each accepted line stands in the theory at the line's number
abbrev pub LinesStand : Statements → List Form → List (Option ℕ) → Type 0
LinesStand t forms numbers = (place number : ℕ) (a : Form) → slice_get numbers place ≡ Some (Some number) → slice_get forms place ≡ Some a → slice_get t.formulas number ≡ Some a

-- the first and the rest, if both are there
abbrev pub both : {X : Type 0} → Option X → Option (List X) → Option (List X)
both None rest = None
both (Some x) None = None
both (Some x) (Some xs) = Some (x ∷ xs)

-- all the parents, if each of them is given or accepted
abbrev pub parents_of : List Form → List Form → List (Option ℕ) → List Ref → Option (List Parent)
parents_of given forms numbers [] = Some []
parents_of given forms numbers (ref ∷ refs) = both (parent_of given forms numbers ref) (parents_of given forms numbers refs)

-- the candidates of a leaf: the given formulas that it names, which are its parents, or else all that are given
abbrev pub candidates_of : List Form → Bool → List Parent → List Parent
candidates_of given true parents = parents
candidates_of given false parents = given_from 0 given

-- the formulas from which a line is to follow: a leaf's candidates, and the parents of a step
abbrev pub sources_of : Bool → List Form → Bool → List Parent → List Parent
sources_of true given cited parents = candidates_of given cited parents
sources_of false given cited parents = parents

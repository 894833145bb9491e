-- What a good derivation is, by its texts alone, and what its lines cite. The lines are gone through in an order: each
-- follows from its parents by a rule, each leaf from what is given, and some line is falsehood. For the rules that ask
-- for a new symbol, a symbol is new to a line where it stands neither in a given formula nor in the formula of a line
-- before it in the order.
use Rattle.std.specs.Prelude.{ℕ, ◌≡◌, Bool, true, false, List, [], ◌∷◌, ◌++◌, length, Option, None, Some, map, slice_get}
use Rattle.fof_terms.specs.Vocabulary.{Vocabulary}
use Rattle.fof_terms.specs.declared.form.Form.{Form}
use Rattle.kernel.specs.Statements.{Statements}
use Rattle.clause_form.specs.declared.path.Parent.{Parent}
use Rattle.elaborate.specs.ByRule.{ByRule, LeafRule}
use Rattle.elaborate.specs.declared.answer.Rule.{Rule}
use Rattle.tstp_graph.specs.declared.shape.Ref.{Ref}
use Rattle.verifier.specs.Lines.{Derivation, Line, IsLineAt, numbered, both, candidates_of}
use Rattle.verifier.specs.Report.{HasFalse}
use Rattle.verifier.specs.Run.{HasRoomFrom}
use Rattle.tstp_graph.specs.declared.shape.Ref.TheVariants as ref

-- the formula of a parent
abbrev pub cited_form : List Form → List Form → Ref → Option Form
cited_form given forms (ref.Given place) = slice_get given place
cited_form given forms (ref.Line place) = slice_get forms place

abbrev pub cited_forms : List Form → List Form → List Ref → Option (List Form)
cited_forms given forms [] = Some []
cited_forms given forms (ref ∷ refs) = both (cited_form given forms ref) (cited_forms given forms refs)

-- The rules look at the formulas of parents alone, and so these have no numbers of their own.
abbrev pub without_numbers : List Form → List Parent
without_numbers forms = map (numbered 0) forms

-- these symbols, and the formulas that are given or stand in the lines before
abbrev pub so_far : Vocabulary → List Form → List Form → Statements
so_far v given earlier = record { vocabulary = v; formulas = given ++ earlier }

abbrev pub cited_one : Option Ref → List Ref
cited_one None = []
cited_one (Some ref) = ref ∷ []

-- What a leaf cites that follows from the candidate at this place: one of the formulas that it names, which are its
-- parents, or else one of all that are given.
abbrev pub cited_by_leaf : Bool → List Ref → ℕ → List Ref
cited_by_leaf true parents i = cited_one (slice_get parents i)
cited_by_leaf false parents i = ref.Given i ∷ []

-- With what is so far, the first rule of leaves, or of steps, that gives the line from parents with these formulas, and
-- what the line cites then: a leaf the candidate from which it follows, a step its parents.
abbrev pub FollowsAs : Bool → Statements → List Form → Bool → List Ref → List Form → Form → List Ref → Type 0
FollowsAs true t given cited parents forms line cites =
    (rule : Rule) × (i : ℕ) × LeafRule t (candidates_of given cited (without_numbers forms)) line rule i × (cites ≡ cited_by_leaf cited parents i)
FollowsAs false t given cited parents forms line cites = (rule : Rule) × ByRule t (without_numbers forms) line rule × (cites ≡ parents)

-- with what is so far, a rule gives the line, which cites these formulas then
abbrev pub Follows : Statements → Derivation → Line → List Ref → Type 0
Follows t d line cites =
    (forms : List Form) × (cited_forms d.given d.forms line.node.parents ≡ Some forms) × FollowsAs line.node.leaf t d.given line.node.cited line.node.parents forms line.form cites

-- behind lines with these formulas, the lines at these places follow, one after another, and cite these formulas in
-- turn
abbrev pub FollowInTurn : Vocabulary → Derivation → List Form → List ℕ → List Ref → Type 0
FollowInTurn v d earlier [] cites = cites ≡ []
FollowInTurn v d earlier (place ∷ places) cites =
    (line : Line) × (own : List Ref) × (later : List Ref) × IsLineAt d place line × (cites ≡ own ++ later) × Follows (so_far v d.given earlier) d line own × FollowInTurn v d (earlier ++ line.form ∷ []) places later

-- with these symbols, the derivation is good in this order, and its lines cite these formulas
pub record IsGood (v : Vocabulary) (d : Derivation) (order : List ℕ) (cites : List Ref) : Type 0 where
  pub each : FollowInTurn v d [] order cites
  pub ends : HasFalse d.forms

-- beside these symbols there is room for each line, by the formulas from which it is to follow: those that it cites, or of
-- a leaf that names none all that are given
abbrev pub HaveRoom : Vocabulary → Derivation → Type 0
HaveRoom v d =
    (place : ℕ) (line : Line) (forms : List Form) → IsLineAt d place line → cited_forms d.given d.forms line.node.parents ≡ Some forms → HasRoomFrom (length v.symbols) d line (without_numbers forms)

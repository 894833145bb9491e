-- Where some rule gives each line, it cannot be refuted that they follow in turn.
use Rattle.std.specs.Prelude.{ℕ, Bool, true, false, List, [], ◌∷◌, ◌++◌, refl}
use Rattle.fof_terms.specs.Vocabulary.{Vocabulary}
use Rattle.fof_terms.specs.declared.form.Form.{Form}
use Rattle.kernel.specs.Statements.{Statements}
use Rattle.elaborate.specs.ByRule.{leaf_rules, rules}
use Rattle.tstp_graph.specs.declared.shape.Ref.{Ref}
use Rattle.verifier.specs.Good.{FollowInTurn, Follows, FollowsAs, IsGood, cited_by_leaf, so_far, without_numbers}
use Rattle.verifier.specs.Lines.{Derivation, Line, candidates_of}
use Rattle.verifier.specs.Report.{HasFalse}
use Rattle.derivation_follows.specs.Applied.{AreGivenInTurn, IsGiven, IsGivenAs}
use Rattle.derivation_follows.specs.Sure.{IsSure}
use Rattle.derivation_follows.proofs.Firsts.{first_alone_sure, first_sure}

follows_as : (leaf : Bool) (t : Statements) (given : List Form) (cited : Bool) (parents : List Ref) (forms : List Form) (line : Form) → IsGivenAs leaf t given cited forms line → IsSure ((cites : List Ref) × FollowsAs leaf t given cited parents forms line cites)
follows_as true t given cited parents forms line h = λ none.
    first_alone_sure leaf_rules t (candidates_of given cited (without_numbers forms)) line h (λ first. none (cited_by_leaf cited parents first.1, (first.0, first.1, first.2, refl)))
follows_as false t given cited parents forms line h = λ none. first_sure rules t (without_numbers forms) line h (λ first. none (parents, (first.0, first.1, refl)))

line_follows : (t : Statements) (d : Derivation) (line : Line) → IsGiven t d line → IsSure ((cites : List Ref) × Follows t d line cites)
line_follows t d line h = λ none. follows_as line.node.leaf t d.given line.node.cited line.node.parents h.0 line.form h.2 (λ is. none (is.0, (h.0, h.1, is.1)))

pub follow_in_turn : (v : Vocabulary) (d : Derivation) (earlier : List Form) (places : List ℕ) → AreGivenInTurn v d earlier places → IsSure ((cites : List Ref) × FollowInTurn v d earlier places cites)
follow_in_turn v d earlier [] h = λ none. none ([], refl)
follow_in_turn v d earlier (place ∷ places) h = λ none.
    line_follows (so_far v d.given earlier) d h.0 h.2 (λ own.
    follow_in_turn v d (earlier ++ h.0.form ∷ []) places h.3 (λ later. none (own.0 ++ later.0, (h.0, own.0, later.0, h.1, refl, own.1, later.1))))

pub good_sure : (v : Vocabulary) (d : Derivation) (order : List ℕ) → AreGivenInTurn v d [] order → HasFalse d.forms → IsSure ((cites : List Ref) × IsGood v d order cites)
good_sure v d order h ends = λ none. follow_in_turn v d [] order h (λ is. none (is.0, record { each = is.1; ends = ends }))

-- Which symbols stand in the theory of a run, of those that it begins with: those of what is given and of the lines that
-- are accepted.
use Rattle.std.specs.Prelude.{ℕ, ◌≡◌, true, false, List, Some, slice_get}
use Rattle.std.specs.List.{All as Each}
use Rattle.fof_terms.specs.Occurs.{occurs_in}
use Rattle.fof_terms.specs.declared.form.Form.{Form}
use Rattle.elaborate.specs.declared.answer.Rule.{Rule}
use Rattle.tstp_graph.specs.Order.{is_taken}
use Rattle.verifier.specs.Lines.{Derivation}
use Rattle.verifier.specs.declared.answer.LineAnswer.{LineAnswer}
use Rattle.verifier.specs.declared.answer.LineAnswer.TheVariants.{Accepted}

-- the symbol does not stand in the formula
abbrev pub IsAbsent : ℕ → Form → Type 0
IsAbsent k a = occurs_in k a ≡ false

-- the symbol stands in no line that is run and accepted
abbrev pub IsInNoAccepted : ℕ → List Form → List ℕ → List LineAnswer → Type 0
IsInNoAccepted k forms order answers =
    (place : ℕ) (a : Form) (rule : Rule) (cites : List ℕ) → is_taken order place ≡ true → slice_get forms place ≡ Some a → slice_get answers place ≡ Some (Accepted rule cites) → IsAbsent k a

-- behind a run in this order, with these answers, the symbol stands in nothing that is given, and in no accepted line
abbrev pub IsUnusedIn : ℕ → Derivation → List ℕ → List LineAnswer → Type 0
IsUnusedIn k d order answers = Each (IsAbsent k) d.given × IsInNoAccepted k d.forms order answers

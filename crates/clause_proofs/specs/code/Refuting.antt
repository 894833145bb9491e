-- What private contracts say, beside the definitions of specs/Refuting.
use Rattle.std.specs.Prelude.{ℕ, ◌≡◌, List, [], ◌∷◌, Some, slice_get}
use Rattle.fof_terms.specs.declared.form.Form.{Form, Or, Not}
use Rattle.fof_terms.specs.Vocabulary.{Vocabulary}
use Rattle.fof_terms.specs.Sorts.{Sorted}
use Rattle.clause_form.specs.declared.clause.Lit.{Lit}
use Rattle.clause_form.specs.ClauseView.{form_of_lit}
use Rattle.kernel.specs.Statements.{Statements}
use Rattle.kernel.specs.Proves.{Proves}
use Rattle.kernel.specs.declared.proof.Proof.{Proof}
use Rattle.clause_proofs.specs.Refuting.{theory_of}

-- from hypothesis number n, which is a, the part shows b
abbrev pub ShowsFrom : Vocabulary → List ℕ → ℕ → Form → Form → Proof → Type 0
ShowsFrom w v n a b p = (formulas h : List Form) → slice_get h n ≡ Some a → Proves (theory_of w formulas) v h p b

-- under a, then b and the negation of g, the part shows falsehood
abbrev pub RefutesUnder : Vocabulary → List ℕ → Form → Form → Form → Proof → Type 0
RefutesUnder w v g b a p = (formulas h : List Form) → Proves (theory_of w formulas) v (a ∷ b ∷ Not g ∷ h) p (Or [])

-- the same for each literal of a list, by the part at its place
abbrev pub AllRefute : Vocabulary → List ℕ → Form → Form → List Lit → List Proof → Type 0
AllRefute w v g b [] [] = Unit {0}
AllRefute w v g b [] (p ∷ ps) = ⊥
AllRefute w v g b (l ∷ lits) [] = ⊥
AllRefute w v g b (l ∷ lits) (p ∷ ps) = RefutesUnder w v g b (form_of_lit l) p × AllRefute w v g b lits ps

-- the part shows falsehood from the literal as hypothesis 0, wherever it is well-sorted
abbrev pub IsAbsurdity : Lit → Proof → Type 0
IsAbsurdity l p = (t : Statements) (v : List ℕ) (h : List Form) → Sorted t.vocabulary v (form_of_lit l) → slice_get h 0 ≡ Some (form_of_lit l) → Proves t v h p (Or [])

-- What a part shows with the symbols of w, over variables of the sorts v, whatever formulas hold.
use Rattle.std.specs.Prelude.{ℕ, ◌≡◌, ◌<◌, ◌⊎◌, Bool, true, false, List, [], ◌∷◌, length, map, Some, slice_get}
use Rattle.fof_terms.specs.declared.form.Form.{Form, Or, Not}
use Rattle.fof_terms.specs.Vocabulary.{Vocabulary}
use Rattle.fof_terms.specs.Sorts.{Sorted}
use Rattle.clause_form.specs.declared.clause.Lit.{Lit}
use Rattle.clause_form.specs.ClauseView.{form_of_lit}
use Rattle.clause_form.specs.Covers.{AreComplementary, IsCovered, negated}
use Rattle.kernel.specs.Statements.{Statements}
use Rattle.kernel.specs.Proves.{Proves}
use Rattle.kernel.specs.declared.proof.Proof.{Proof, OrI}
use Rattle.clause_proofs.specs.declared.opening.Opened.{Opened}
use Rattle.clause_proofs.specs.Bodies.{body_of}

abbrev pub theory_of : Vocabulary → List Form → Statements
theory_of w formulas = record { vocabulary = w; formulas = formulas }

-- where hypothesis 0 is a, and number n is the negation of g, the part shows falsehood
abbrev pub Refutes : Vocabulary → List ℕ → ℕ → Form → Form → Proof → Type 0
Refutes w v n g a p = (formulas h : List Form) → slice_get h 0 ≡ Some a → slice_get h n ≡ Some (Not g) → Proves (theory_of w formulas) v h p (Or [])

-- the literal is covered by the line, or complementary to the other literal
abbrev pub IsSettled : List Lit → Lit → Lit → Type 0
IsSettled line other k = IsCovered line k ⊎ AreComplementary k other

-- the body from the literal at place k
abbrev pub injected_tree : Bool → List Lit → ℕ → Proof → Proof
injected_tree true lits k p = OrI (map form_of_lit lits) k p
injected_tree false lits k p = p

-- the body of the line
abbrev pub body : Opened → Form
body o = body_of o.is_or o.clause.lits

-- the line's body is well-sorted over the variables, with room for one more
pub record IsGoal (w : Vocabulary) (v : List ℕ) (o : Opened) : Type 0 where
  pub room : length v < 2147483647
  pub sorted : Sorted w v (body o)
  pub alone : o.is_or ≡ false → length o.clause.lits ≡ 1

-- each of the literals is covered by the line or complementary to the other one
abbrev pub AllSettled : List Lit → Lit → List Lit → Type 0
AllSettled line other lits = (i : ℕ) (k : Lit) → slice_get lits i ≡ Some k → IsSettled line other k

-- in this theory, under any hypotheses, the part shows the body of these literals
abbrev pub ShowsBody : Vocabulary → List ℕ → List Form → Bool → List Lit → Proof → Type 0
ShowsBody w v formulas is_or lits p = (h : List Form) → Proves (theory_of w formulas) v h p (body_of is_or lits)

-- in this theory, under these hypotheses, the part shows the formula
abbrev pub ShowsUnder : Vocabulary → List ℕ → List Form → List Form → Form → Proof → Type 0
ShowsUnder w v formulas h a p = Proves (theory_of w formulas) v h p a

-- in this theory, under b and the negation of g, the part shows falsehood
abbrev pub RefutesIn : Vocabulary → List ℕ → List Form → Form → Form → Proof → Type 0
RefutesIn w v formulas g b p = (h : List Form) → Proves (theory_of w formulas) v (b ∷ Not g ∷ h) p (Or [])

-- under the literal's form, falsehood: so its opposite
abbrev pub IsDenial : Lit → Proof → Proof → Type 0
IsDenial l p made = (t : Statements) (v : List ℕ) (h : List Form) → Sorted t.vocabulary v (form_of_lit l) → Proves t v (form_of_lit l ∷ h) p (Or []) → Proves t v h made (form_of_lit (negated l))

-- in this theory, under the negation of g, the part shows falsehood
abbrev pub RefutesBody : Vocabulary → List ℕ → List Form → Form → Proof → Type 0
RefutesBody w v formulas g p = (h : List Form) → Proves (theory_of w formulas) v (Not g ∷ h) p (Or [])

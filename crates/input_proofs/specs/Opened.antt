-- Proofs of the clauses of a step: of those of its parents and of those of the negation of its line. First come entries
-- by which the functions choose, then the line's negation. By these each formula is shown that a clause is taken from,
-- in its normal form with the functions in place of its existential variables; and by those formulas the clauses.
use Rattle.std.specs.Prelude.{ℕ, suc, ◌≡◌, ◌+◌, Bool, List, [], ◌∷◌, length, map, Some, slice_get}
use Rattle.std.specs.List.{AllZip}
use Rattle.fof_terms.specs.declared.form.Form.{Form, Not}
use Rattle.fof_terms.specs.Vocabulary.{Vocabulary}
use Rattle.clause_form.specs.declared.clause.Clause.{Clause}
use Rattle.clause_form.specs.declared.path.Parent.{Parent}
use Rattle.derive_kit.specs.Derived.{AreOfTheory, HasCited, numbers_of}
use Rattle.kernel.specs.Proves.{Proves}
use Rattle.kernel.specs.Statements.{Statements}
use Rattle.kernel.specs.declared.entry.Entry.{Entry}
use Rattle.kernel.specs.declared.entry.Entry.TheVariants.{Declare, Lemma, Name, Choice}
use Rattle.kernel.specs.declared.proof.Proof.{Proof}
use Rattle.skolem_fresh.specs.Entered.{Enters, formulas_told}
use Rattle.skolem_fresh.specs.Told.{AddedFrom}
use Rattle.input_proofs.specs.Functions.{searched_vocabulary, searched_clauses, with_functions, SpeakOfKnown}
use Rattle.input_proofs.specs.Formulas.{formula_of}
use Rattle.input_proofs.specs.Wanted.{AreWanted}
use Rattle.input_proofs.specs.declared.opening.OpenedInputs.{OpenedInputs}

-- by each of the entries a function chooses
abbrev pub AreChoices : List Entry → Type 0
AreChoices [] = Unit {0}
AreChoices (Choice f a ∷ entries) = AreChoices entries
AreChoices (Declare d ∷ entries) = ⊥
AreChoices (Lemma p ∷ entries) = ⊥
AreChoices (Name k a ∷ entries) = ⊥

-- each proof shows the formula at its place
abbrev pub ShowEach : Statements → List Proof → List Form → Type 0
ShowEach s proofs forms = AllZip (Proves s [] []) proofs forms

-- the formulas stand in turn, from number n on
abbrev pub StandFrom : Statements → ℕ → List Form → Type 0
StandFrom s n [] = Unit {0}
StandFrom s n (a ∷ as_) = (slice_get s.formulas n ≡ Some a) × StandFrom s (suc n) as_

-- the proof shows the clause's formula
abbrev pub ShowsClause : Statements → Clause → Proof → Type 0
ShowsClause s c p = Proves s [] [] p (formula_of c)

-- The theory has this vocabulary. The parents stand at their numbers, from number `first` on what the choices add, and
-- then the negation of the line.
pub record IsPrepared (v : Vocabulary) (parents : List Parent) (line : Form) (first : ℕ) (choices : List Entry) (s : Statements) : Type 0 where
  pub vocabulary : s.vocabulary ≡ v
  pub parents_stand : AreOfTheory s parents
  pub added : AddedFrom s first choices
  pub denied : slice_get s.formulas (first + length choices) ≡ Some (Not line)

-- what is made of the step's formulas, in the theory and in each other that has the parents
pub record AreOpened (t : Statements) (parents : List Parent) (line : Form) (wanted : List Bool) (opened : OpenedInputs) : Type 0 where
  pub choose : AreChoices opened.choices
  -- the choices are legal in turn where the functions are declared, and speak of no symbols but those of the parents and
  -- of the line, and the functions; so do the formulas that are shown, and the clauses
  pub enter : (u : Statements) → HasCited t (numbers_of parents) u → Enters (with_functions u parents line) opened.choices
  pub speak : (u : Statements) → HasCited t (numbers_of parents) u → SpeakOfKnown u line (formulas_told (searched_vocabulary t.vocabulary parents line) opened.choices)
  pub forms : List Form
  pub forms_speak : (u : Statements) → HasCited t (numbers_of parents) u → SpeakOfKnown u line forms
  pub clauses_speak : (u : Statements) → HasCited t (numbers_of parents) u → SpeakOfKnown u line (map formula_of (searched_clauses t.vocabulary parents line))
  -- the facts are shown where the choices and the line's negation stand
  pub facts : (s : Statements) → IsPrepared (searched_vocabulary t.vocabulary parents line) parents line (length t.formulas) opened.choices s → ShowEach s opened.facts forms
  -- and the clauses where the facts stand behind the line's negation
  pub clauses : (s : Statements) → s.vocabulary ≡ searched_vocabulary t.vocabulary parents line → StandFrom s (length t.formulas + length opened.choices + 1) forms
      → AreWanted (ShowsClause s) wanted (searched_clauses t.vocabulary parents line) opened.proofs

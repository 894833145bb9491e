-- Facts of a refutation: what they are shown from, and where they stand.
use Rattle.std.specs.Prelude.{ℕ, ◌≡◌, ◌+◌, List, [], length, Some, slice_get}
use Rattle.fof_terms.specs.Vocabulary.{Vocabulary}
use Rattle.fof_terms.specs.declared.form.Form.{Form}
use Rattle.clause_form.specs.declared.path.Parent.{Parent}
use Rattle.derive_kit.specs.Derived.{AreOfTheory}
use Rattle.kernel.specs.Statements.{Statements}
use Rattle.kernel.specs.Entries.{Admits}
use Rattle.kernel.specs.declared.entry.Entry.{Entry}
use Rattle.kernel.specs.declared.proof.Proof.{Proof}
use Rattle.negated_lemmas.specs.Negated.{lemmas_by, with_denied}
use Rattle.skolem_fresh.specs.Told.{AddedFrom}

-- the vocabulary with the functions of the step, its parents and its line, how many formulas the theory has, and the
-- entries by which the functions choose
pub record Setting : Type 0 where
  pub vocabulary : Vocabulary
  pub parents : List Parent
  pub line : Form
  pub count : ℕ
  pub choices : List Entry

-- The theory has the functions. The parents stand among so many formulas, and behind these what the choices add.
pub record IsOf (s : Setting) (t : Statements) : Type 0 where
  pub vocabulary : t.vocabulary ≡ s.vocabulary
  pub parents : AreOfTheory t s.parents
  pub added : AddedFrom t s.count s.choices
  pub count : length t.formulas ≡ s.count + length s.choices

-- the number of the first fact, behind the line's negation
abbrev pub first_fact : Setting → ℕ
first_fact s = s.count + length s.choices + 1

-- with the line's negation the proofs show these facts, each with those before it
pub record AreShown (s : Setting) (proofs : List Proof) (facts : List Form) : Type 0 where
  pub legal : (t : Statements) → IsOf s t → Admits (with_denied t s.line []) (lemmas_by proofs) (with_denied t s.line facts)
  pub count : length facts ≡ length proofs

-- the fact of this number is the formula
pub record StandsAt (s : Setting) (facts : List Form) (number : ℕ) (a : Form) : Type 0 where
  pub place : ℕ
  pub number_is : number ≡ first_fact s + place
  pub there : slice_get facts place ≡ Some a

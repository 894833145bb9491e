-- What functions that take the place of a formula's existential variables bring with them: the entries by which they
-- come in, and a proof that the formula implies what it is with them.
use Rattle.std.specs.Prelude.{ℕ, ◌≡◌, ◌==◌, ◌≤◌, ◌++◌, ◌∷◌, false, List, [], length}
use Rattle.std.specs.List.{All as Every, AllByRecursion as Each}
use Rattle.fof_terms.specs.declared.form.Form.{Form, Imp}
use Rattle.fof_terms.specs.Occurs.{occurs_in}
use Rattle.fof_terms.specs.Sorts.{Sorted}
use Rattle.fof_terms.specs.Vocabulary.{Vocabulary}
use Rattle.kernel.specs.Proves.{Proves}
use Rattle.kernel.specs.Statements.{Statements}
use Rattle.kernel.specs.declared.entry.Entry.{Entry}
use Rattle.kernel.specs.declared.entry.Entry.TheVariants.{Declare, Lemma, Name, Choice}
use Rattle.kernel.specs.declared.proof.Proof.{Proof}
use Rattle.skolem_fresh.specs.declared.just.Use.{Use}
use Rattle.skolem_fresh.specs.declared.just.SkolemJust.{SkolemJust}
use Rattle.skolem_fresh.specs.declared.just.SkolemJust.TheVariants.{Skolem, Choice as JustChoice}
use Rattle.skolem_fresh.specs.Choosing.{IsWithin}
use Rattle.skolem_fresh.specs.Entered.{Enters, formulas_told}
use Rattle.skolem_fresh.specs.SkolemRule.{IsSkolemized}
use Rattle.skolem_fresh.specs.Told.{AddedFrom}
use Rattle.skolem_fresh.specs.Uses.{AreNew}
use Rattle.skolem_proofs.specs.declared.whole.Skolemized.{Skolemized}

-- none of the functions stands in the formula
abbrev pub AreAbsent : Form → List Use → Type 0
AreAbsent a uses = Each (λ (u : Use). occurs_in u.function a ≡ false) uses

-- none of the functions is this symbol
abbrev pub AreOthers : ℕ → List Use → Type 0
AreOthers k uses = Each (λ (u : Use). (u.function == k) ≡ false) uses

-- there is one entry for each of the functions, in turn, by which that function chooses
abbrev pub ChooseInTurn : List Use → List Entry → Type 0
ChooseInTurn [] [] = Unit {0}
ChooseInTurn [] (e ∷ entries) = ⊥
ChooseInTurn (u ∷ uses) [] = ⊥
ChooseInTurn (u ∷ uses) (Choice f a ∷ entries) = (f ≡ u.function) × ChooseInTurn uses entries
ChooseInTurn (u ∷ uses) (Declare d ∷ entries) = ⊥
ChooseInTurn (u ∷ uses) (Lemma p ∷ entries) = ⊥
ChooseInTurn (u ∷ uses) (Name k a ∷ entries) = ⊥

-- for each function of the justification, in turn, the entries have one by which it chooses, and then they have a lemma
abbrev pub ChooseAndEnd : SkolemJust → List Entry → Type 0
ChooseAndEnd (Skolem parent uses) entries = (choices : List Entry) × (last : Proof) × (entries ≡ choices ++ Lemma last ∷ []) × ChooseInTurn uses choices
ChooseAndEnd (JustChoice uses) entries = ⊥

-- the entries are legal in turn where the functions are new to the theory and to the formula, and what they add stands
-- there then
abbrev pub MayEnter : List Use → Form → Skolemized → Type 0
MayEnter uses a made = (t : Statements) (scope : List ℕ) (b : Form) → IsSkolemized t.vocabulary scope uses a b → IsWithin t.vocabulary scope a → AreNew t uses → AreAbsent a uses → Enters t made.choices

-- what the entries add has no symbols but those of the formula and the functions
abbrev pub SpeaksOf : List Use → Form → Skolemized → Type 0
SpeaksOf uses a made =
    (v : Vocabulary) (scope : List ℕ) (b : Form) → IsSkolemized v scope uses a b → (k : ℕ) → occurs_in k a ≡ false → AreOthers k uses → Every (λ c. occurs_in k c ≡ false) (formulas_told v made.choices)

-- in every theory in which what the entries add stands in turn from number n on, and every context of at most
-- 1,000,000,000 sorts, the nearest of which are those that the functions need, the proof shows that the formula implies
-- what it is with the functions
abbrev pub ShowsFrom : List Use → Form → ℕ → Skolemized → Type 0
ShowsFrom uses a n made =
    (t : Statements) (scope back : List ℕ) (h : List Form) (b : Form) → IsSkolemized t.vocabulary scope uses a b → length (scope ++ back) ≤ 1000000000 → Sorted t.vocabulary (scope ++ back) a → AddedFrom t n made.choices
    → Proves t (scope ++ back) h made.proof (Imp a b)

-- what is made of the formula and the functions; what the entries add is to stand from number n on
pub record IsWitnessedBy (uses : List Use) (a : Form) (n : ℕ) (made : Skolemized) : Type 0 where
  pub form : (v : Vocabulary) (scope : List ℕ) (b : Form) → IsSkolemized v scope uses a b → made.form ≡ b
  pub choose : (v : Vocabulary) (scope : List ℕ) (b : Form) → IsSkolemized v scope uses a b → ChooseInTurn uses made.choices
  pub enter : MayEnter uses a made
  pub speaks : SpeaksOf uses a made
  pub shows : ShowsFrom uses a n made

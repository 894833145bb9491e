-- Entries that derive a line from formulas of a theory that are named by their numbers.
use Rattle.std.specs.Prelude.{ℕ, ◌≡◌, false, List, [], ◌∷◌, ◌++◌, length, map, Some, slice_get}
use Rattle.std.specs.List.{All as Each}
use Rattle.fof_terms.specs.Occurs.{occurs_in}
use Rattle.fof_terms.specs.declared.form.Form.{Form}
use Rattle.clause_form.specs.declared.path.Parent.{Parent}
use Rattle.kernel.specs.Statements.{Statements}
use Rattle.kernel.specs.Entries.{Admits, IsFresh}
use Rattle.kernel.specs.declared.proof.Proof.{Proof}
use Rattle.kernel.specs.declared.entry.Entry.{Entry}
use Rattle.kernel.specs.declared.entry.Entry.TheVariants.{Lemma}

-- each formula is the theory's of its number
abbrev pub AreOfTheory : Statements → List Parent → Type 0
AreOfTheory t parents = Each (λ (p : Parent). slice_get t.formulas p.number ≡ Some p.form) parents

abbrev pub numbers_of : List Parent → List ℕ
numbers_of parents = map (λ (p : Parent). p.number) parents

-- The theory u has the symbols of t, as many formulas, and at these numbers the formulas that t has there. A symbol
-- that is in no formula of t is in none of u.
pub record HasCited (t : Statements) (cites : List ℕ) (u : Statements) : Type 0 where
  pub vocabulary : u.vocabulary ≡ t.vocabulary
  pub count : length u.formulas ≡ length t.formulas
  pub formulas : Each (λ n. slice_get u.formulas n ≡ slice_get t.formulas n) cites
  pub fresh : (k : ℕ) → IsFresh k t → IsFresh k u

-- the theory with more formulas
abbrev pub with_formulas : Statements → List Form → Statements
with_formulas t more = record t { formulas = t.formulas ++ more }

-- none of the formulas has a symbol that stands neither in the theory nor in the line
abbrev pub SpeakOf : Statements → Form → List Form → Type 0
SpeakOf t line more = (k : ℕ) → IsFresh k t → occurs_in k line ≡ false → Each (λ a. occurs_in k a ≡ false) more

-- the entries are legal in turn after the theory, declare nothing, and add some formulas and then the line
pub record Adds (t : Statements) (entries : List Entry) (before : List Form) (line : Form) : Type 0 where
  pub legal : Admits t entries (with_formulas t (before ++ line ∷ []))
  pub speak : SpeakOf t line before

-- The entries add some formulas and then, by a lemma, the line, to the theory and to each other that has what is cited.
-- So they need no formula of the theory but those, and speak of no symbols but those of what is cited and of the line.
pub record IsDerivedFrom (t : Statements) (cites : List ℕ) (entries : List Entry) (line : Form) : Type 0 where
  pub first : List Entry
  pub last : Proof
  pub is : entries ≡ first ++ Lemma last ∷ []
  pub before : List Form
  pub adds : (u : Statements) → HasCited t cites u → Adds u entries before line

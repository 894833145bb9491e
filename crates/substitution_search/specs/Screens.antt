-- Cheap tests that come before a search: where one answers no, no substitution at all will do.
use Rattle.std.specs.Prelude.{ℕ, Bool, true, ◌≡◌, ◌≢◌, List, [], ◌∷◌, ◌++◌, Some, slice_get}
use Rattle.fof_terms.specs.declared.term.Term.{Term}
use Rattle.fof_terms.specs.declared.form.Form.{Form}
use Rattle.clause_form.specs.declared.path.Path.{Path}
use Rattle.clause_form.specs.declared.clause.Clause.{Clause}
use Rattle.clause_form.specs.declared.clause.Lit.{Lit}
use Rattle.clause_form.specs.Covers.{lit_image, HasOne, IsCovered, AreComplementary}
use Rattle.clause_form.specs.Images.{image}
use Rattle.clause_form.specs.Paths.{reached}
use Rattle.clause_rules.specs.Steps.{instances, AreCovered}

-- the terms of a line stay as they are
pub record Stays (is_line : Bool) (r : ℕ → Term) : Type 0 where
  pub stays : is_line ≡ true → (t : Term) → image r t ≡ t

-- no instances of the two terms are the same; where the second is a term of the line, it stays as it is
abbrev pub NeverEqual : Bool → Term → Term → Type 0
NeverEqual is_line t u = (s r : ℕ → Term) → Stays is_line r → image s t ≡ image r u → ⊥

-- no instances of the two literals are complementary
abbrev pub NeverClash : Lit → Lit → Type 0
NeverClash k l = (s r : ℕ → Term) → AreComplementary (lit_image s k) (lit_image r l) → ⊥

-- no instance of the literal is covered by the line
abbrev pub NeverCovered : List Lit → Lit → Type 0
NeverCovered line k = (s : ℕ → Term) → IsCovered line (lit_image s k) → ⊥

-- no instances of the literals are all covered by the line and the pivot, which is that of this number
abbrev pub NeverPivot : List Lit → List Lit → ℕ → Type 0
NeverPivot line lits i = (s : ℕ → Term) (pivot : Lit) → slice_get (instances s lits) i ≡ Some pivot → AreCovered (line ++ pivot ∷ []) (instances s lits) → ⊥

-- no instances of all literals but that of this number are covered by the line
abbrev pub NeverOthers : List Lit → List Lit → ℕ → Type 0
NeverOthers line lits i = (s : ℕ → Term) → ((m : ℕ) (k : Lit) → m ≢ i → slice_get (instances s lits) m ≡ Some k → IsCovered line k) → ⊥

-- no instances of the literals are all covered by the line
abbrev pub NeverAll : List Lit → List Lit → Type 0
NeverAll line lits = (s : ℕ → Term) → AreCovered line (instances s lits) → ⊥

-- so it is with one of the literals under each substitution
abbrev pub NeverTogether : List Lit → List Lit → Type 0
NeverTogether targets lits = (s : ℕ → Term) → AreCovered (instances s targets) (instances s lits) → ⊥

-- each clause that a path reaches in the formula has a literal no instance of which is covered by the line
abbrev pub NeverReached : List Lit → Form → Type 0
NeverReached line a = (p : Path) (c : Clause) → reached p a ≡ Some c → HasOne (NeverCovered line) c.lits

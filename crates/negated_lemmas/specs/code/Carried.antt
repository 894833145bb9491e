-- What a proof that is carried under one hypothesis more shows.
use Rattle.std.specs.Prelude.{ℕ, ◌≡◌, ◌≤◌, ◌<◌, List, [], ◌∷◌, ◌++◌, length, slice_get, Some}
use Rattle.fof_terms.specs.declared.form.Form.{Form, Imp}
use Rattle.fof_terms.specs.Sorts.{Sorted}
use Rattle.kernel.specs.Statements.{Statements}
use Rattle.kernel.specs.Proves.{Proves}
use Rattle.kernel.specs.declared.proof.Proof.{Proof}

-- A theory, a closed formula, and further formulas: the theory's, and from number `first` on that formula implies them.
pub record Setting (first : ℕ) : Type 0 where
  pub theory : Statements
  pub assumed : Form
  pub formulas : List Form
  pub closed : Sorted theory.vocabulary [] assumed
  pub before : (i : ℕ) (a : Form) → i < first → slice_get theory.formulas i ≡ Some a → slice_get formulas i ≡ Some a
  pub behind : (i : ℕ) (a : Form) → first ≤ i → slice_get theory.formulas i ≡ Some a → slice_get formulas i ≡ Some (Imp assumed a)

-- the theory of the further formulas
abbrev pub carried_to : (first : ℕ) → Setting first → Statements
carried_to first s = record s.theory { formulas = s.formulas }

-- In every such setting the second proof shows, with the formula as the outermost hypothesis behind so many others, what
-- the first shows without.
pub record Carries (first depth : ℕ) (p q : Proof) : Type 0 where
  pub shows : (s : Setting first) (v : List ℕ) (h : List Form) (a : Form) → length h ≡ depth → Proves s.theory v h p a → Proves (carried_to first s) v (h ++ s.assumed ∷ []) q a

-- each proof, in turn
abbrev pub CarryEach : ℕ → ℕ → List Proof → List Proof → Type 0
CarryEach first depth [] [] = Unit {0}
CarryEach first depth [] (q ∷ qs) = ⊥
CarryEach first depth (p ∷ ps) [] = ⊥
CarryEach first depth (p ∷ ps) (q ∷ qs) = Carries first depth p q × CarryEach first depth ps qs

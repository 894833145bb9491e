-- What private contracts say, beside the definitions of specs/Screens.
use Rattle.std.specs.Prelude.{ℕ, Bool, ◌≡◌, ◌⊎◌, List, map, Some, slice_get}
use Rattle.fof_terms.specs.declared.term.Term.{Term}
use Rattle.fof_terms.specs.declared.form.Form.{Form}
use Rattle.clause_form.specs.declared.clause.AtomOf.{AtomOf}
use Rattle.clause_form.specs.declared.clause.Lit.{Lit}
use Rattle.clause_form.specs.Covers.{at_terms, lit_image, IsSameAtom, IsSame, IsAbsurd, IsCovered}
use Rattle.clause_form.specs.Images.{image}
use Rattle.clause_rules.specs.Steps.{instances}
use Rattle.substitution_search.specs.Screens.{Stays, NeverReached}

-- the same of two lists of terms
abbrev pub NeverEquals : Bool → List Term → List Term → Type 0
NeverEquals is_line ts us = (s r : ℕ → Term) → Stays is_line r → map (image s) ts ≡ map (image r) us → ⊥

-- the same of two atoms, up to the sides of an equation
abbrev pub NeverSame : Bool → AtomOf → AtomOf → Type 0
NeverSame is_line a b = (s r : ℕ → Term) → Stays is_line r → IsSameAtom (at_terms (image s) a) (at_terms (image r) b) → ⊥

-- no instance of the first literal is an instance of the second
abbrev pub NeverBecomes : Bool → Lit → Lit → Type 0
NeverBecomes is_line k l = (s r : ℕ → Term) → Stays is_line r → IsSame (lit_image s k) (lit_image r l) → ⊥

-- no instance of the literal is false by its form
abbrev pub NeverAbsurd : Lit → Type 0
NeverAbsurd k = (s : ℕ → Term) → IsAbsurd (lit_image s k) → ⊥

-- no instance of the literal is covered by the line, or is that of the pivot under the same substitution
abbrev pub NeverStays : List Lit → Lit → Lit → Type 0
NeverStays line k pivot = (s : ℕ → Term) → IsCovered line (lit_image s k) ⊎ IsSame (lit_image s k) (lit_image s pivot) → ⊥

-- no instance of the literal is one of those of the targets under the same substitution, or false by its form
abbrev pub NeverAmong : List Lit → Lit → Type 0
NeverAmong targets k = (s : ℕ → Term) → IsCovered (instances s targets) (lit_image s k) → ⊥

-- so it is with all of the formulas, and with one of them
abbrev pub NoneReached : List Lit → List Form → Type 0
NoneReached line forms = (i : ℕ) (a : Form) → slice_get forms i ≡ Some a → NeverReached line a

abbrev pub OneUnreached : List Lit → List Form → Type 0
OneUnreached line forms = (i : ℕ) × (a : Form) × (slice_get forms i ≡ Some a) × NeverReached line a

-- Clauses as a derivation prints them: over its functions, and without the sorts of variables that do not occur.
use Rattle.std.specs.Prelude.{ℕ, ◌≡◌, true, List, Some, slice_get}
use Rattle.std.specs.List.{AllByRecursion}
use Rattle.fof_terms.specs.declared.form.Form.{Form}
use Rattle.fof_terms.specs.Vocabulary.{Vocabulary}
use Rattle.clause_form.specs.declared.path.Parent.{Parent}
use Rattle.clause_form.specs.declared.clause.Clause.{Clause}
use Rattle.clause_form.specs.declared.clause.Lit.{Lit}
use Rattle.clause_form.specs.ClauseView.{closed, IsLoneFalsehood}
use Rattle.clause_form.specs.Covers.{AreSorted, scope_of}
use Rattle.clause_form.specs.Paths.{forms_of, is_plain}
use Rattle.printed_clauses.specs.Renumbered.{renumbered_clause}
use Rattle.printed_clauses.specs.Trimmed.{trimmed}
use Rattle.printed_steps.specs.Carried.{AreCarried}

abbrev pub printed_clause : (ℕ → ℕ) → Clause → Clause
printed_clause number c = trimmed (renumbered_clause number c)

abbrev pub printed : (ℕ → ℕ) → Clause → Form
printed number c = closed (printed_clause number c)

-- the parent of that number is the clause as it is printed
abbrev pub IsPrintedAt : (ℕ → ℕ) → List Parent → ℕ → Clause → Type 0
IsPrintedAt number parents a c = slice_get (forms_of parents) a ≡ Some (printed number c)

-- The clause is well-sorted and more than falsehood alone, and its functions are carried to the other vocabulary.
pub record IsPrintable (v w : Vocabulary) (number : ℕ → ℕ) (c : Clause) : Type 0 where
  pub sorted : AreSorted v (scope_of c) c.lits
  pub proper : IsLoneFalsehood c → ⊥
  pub carried : AreCarried v w number c

-- no literal is truth or falsehood, stated or denied
abbrev pub IsPlain : List Lit → Type 0
IsPlain lits = AllByRecursion (λ (l : Lit). is_plain l.atom ≡ true) lits

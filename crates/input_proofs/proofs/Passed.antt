-- What stands when the first formulas of a step are done.
use Rattle.std.specs.Prelude.{ℕ, ◌≡◌, ◌≤◌, ◌<◌, ◌⊎◌, Bool, false, List, [], ◌∷◌, length, take, Some, slice_get}
use Rattle.std.specs.List.{All as Each, AllByRecursion}
use Rattle.fof_terms.specs.declared.form.Form.{Form}
use Rattle.fof_terms.specs.Occurs.{occurs_in}
use Rattle.fof_terms.specs.Sorts.{Sorted}
use Rattle.fof_terms.specs.Vocabulary.{Vocabulary}
use Rattle.clause_form.specs.declared.clause.Clause.{Clause}
use Rattle.kernel.specs.Entries.{IsFresh}
use Rattle.kernel.specs.Statements.{Statements}
use Rattle.skolem_fresh.specs.Entered.{Enters, formulas_told}
use Rattle.skolem_fresh.specs.Told.{AddedFrom}
use Rattle.step_clauses.specs.Inputs.{clauses_from, next_behind}
use Rattle.input_proofs.specs.Opened.{AreChoices, ShowEach}
use Rattle.input_proofs.specs.Wanted.{AreWanted}
use Rattle.input_proofs.specs.code.Pending.{Implies}
use Rattle.input_proofs.specs.declared.forms.Opening.{Opening}
use Rattle.input_proofs.specs.declared.pending.Pending.{Pending}

-- the pending clause is one of these formulas', at its number, which implies it
abbrev pub IsPendingOn : List Form → Clause → Pending → Type 0
IsPendingOn forms c p = (a : Form) × (slice_get forms p.fact ≡ Some a) × Implies a c p

-- the first number behind those of the formulas' functions
abbrev pub number_after : ℕ → List Form → ℕ
number_after next [] = next
number_after next (a ∷ forms) = number_after (next_behind next a) forms

-- the symbol is none of those from `start` on, of which the last is behind `end`
abbrev pub IsOutside : ℕ → ℕ → ℕ → Type 0
IsOutside start end k = (k < start) ⊎ (end ≤ k)

abbrev pub AllLack : ℕ → List Form → Type 0
AllLack k = Each (λ a. occurs_in k a ≡ false)

-- The first formulas of the step are done. Its functions have the numbers from `start` on, and w knows them. Where the
-- property holds, the formulas stand at their numbers.
pub record HavePassed (start first : ℕ) (w : Vocabulary) (wanted : List Bool) (Given : Statements → ℕ → Type 0) (done : List Form) (o : Opening) : Type 0 where
  pub next : o.next ≡ number_after start done
  pub choose : AreChoices o.choices
  pub enter : (u : Statements) → u.vocabulary ≡ w → ((k : ℕ) → start ≤ k → IsFresh k u) → Enters u o.choices
  pub speak : (k : ℕ) → AllByRecursion (λ a. occurs_in k a ≡ false) done → IsOutside start o.next k → AllLack k (formulas_told w o.choices)
  pub forms : List Form
  pub count : length o.facts ≡ length forms
  pub forms_sorted : AllByRecursion (Sorted w []) forms
  pub forms_speak : (k : ℕ) → AllByRecursion (λ a. occurs_in k a ≡ false) done → IsOutside start o.next k → AllByRecursion (λ a. occurs_in k a ≡ false) forms
  pub facts : (s : Statements) → s.vocabulary ≡ w → Given s (length o.choices) → AddedFrom s first o.choices → ShowEach s o.facts forms
  pub pending : AreWanted (IsPendingOn forms) (take (length o.pending) wanted) (clauses_from start done) o.pending

-- The body of a clause's formula, which stands under its quantifiers.
use Rattle.std.specs.Prelude.{ℕ, ◌≡◌, List, [], ◌++◌, Some, slice_get}
use Rattle.fof_terms.specs.Sorts.{IsScope, Sorted}
use Rattle.fof_terms.specs.declared.form.Form.{Form}
use Rattle.clause_form.specs.Covers.{AreSorted, scope_of}
use Rattle.clause_form.specs.declared.clause.Clause.{Clause}
use Rattle.clause_proofs.specs.Bodies.{body_of}
use Rattle.clause_proofs.specs.declared.opening.Opened.{Opened}
use Rattle.input_proofs.specs.Formulas.{formula_of, has_or}
use Rattle.kernel.specs.Proves.{Proves}
use Rattle.kernel.specs.Statements.{Statements}
use Rattle.kernel.specs.declared.proof.Proof.{Proof}

abbrev pub body_in : Clause → Form
body_in c = body_of (has_or c.lits) c.lits

-- the formula of this number is that of the clause, in a theory in which the clause is well-sorted
pub record StandsAs (t : Statements) (number : ℕ) (c : Clause) : Type 0 where
  pub sorted : Sorted t.vocabulary [] (formula_of c)
  pub lits_sorted : AreSorted t.vocabulary (scope_of c) c.lits
  pub there : slice_get t.formulas number ≡ Some (formula_of c)

-- wherever it does, the proof shows the clause's body over its own variables and any further ones
abbrev pub ShowsBodyOf : ℕ → Clause → Proof → Type 0
ShowsBodyOf number c p =
    (t : Statements) → StandsAs t number c → (more : List ℕ) (h : List Form) → IsScope t.vocabulary (scope_of c ++ more)
    → Proves t (scope_of c ++ more) h p (body_in c)

-- the clause, and how its formula has it
abbrev pub opened_over : Clause → Opened
opened_over c = record { clause = c; is_or = has_or c.lits }

-- the empty clause over these sorts
abbrev pub empty_over : List ℕ → Clause
empty_over sorts = record { sorts = sorts; lits = [] }

-- The body of a clause's formula, which stands under its quantifiers.
use Rattle.std.specs.Prelude.{◌≡◌, Bool, true, false, List, [], ◌∷◌, length, map, Option, Some, None}
use Rattle.fof_terms.specs.declared.form.Form.{Form, Or}
use Rattle.clause_form.specs.declared.clause.Lit.{Lit}
use Rattle.clause_form.specs.declared.clause.Clause.{Clause}
use Rattle.clause_form.specs.ClauseView.{clause_of, closed_by, form_of_lit}
use Rattle.clause_proofs.specs.declared.opening.Opened.{Opened}

-- the Or of the literals, or the first of them alone
abbrev pub body_of : Bool → List Lit → Form
body_of true lits = Or (map form_of_lit lits)
body_of false [] = Or []
body_of false (l ∷ lits) = form_of_lit l

-- the formula has the clause: all of its sorts over the Or of its literals, or over its one literal
pub record HasClause (a : Form) (c : Clause) (is_or : Bool) : Type 0 where
  pub is : a ≡ closed_by c.sorts (body_of is_or c.lits)
  pub alone : is_or ≡ false → length c.lits ≡ 1

-- the clause that the formula is, and how the formula has it, or none where it is none
abbrev pub IsOpening : Form → Option Opened → Type 0
IsOpening a None = clause_of a ≡ None
IsOpening a (Some o) = (clause_of a ≡ Some o.clause) × HasClause a o.clause o.is_or

-- The clause that a formula is: universal quantifiers over a disjunction of literals or over one literal, as in the
-- cnf formulas of the TPTP language.
use Rattle.std.specs.Prelude.{ℕ, ◌≡◌, Bool, true, false, List, [], ◌∷◌, map, Option, Some, None}
use Rattle.std.specs.Option.{option_map}
use Rattle.fof_terms.specs.declared.form.Form.{Form, Atom, Eq, Not, And, Or, Imp, Iff, All, Ex}
use Rattle.fof_terms.specs.declared.form.Form.TheFolds.{fold-Form}
use Rattle.clause_form.specs.declared.clause.AtomOf.{AtomOf}
use Rattle.clause_form.specs.declared.clause.AtomOf.TheVariants.{Pred, Eq as Equation, True, False}
use Rattle.clause_form.specs.declared.clause.Lit.{Lit}
use Rattle.clause_form.specs.declared.clause.Clause.{Clause}
use Rattle.clause_form.specs.Norm.{signed}
use Rattle.fof_terms.specs.declared.form.Form.TheOpen as form

-- what a formula is as an atom, as a literal, as a disjunction of literals and as a clause, where it is one
pub record View : Type 0 where
  pub atom : Option AtomOf
  pub lit : Option Lit
  pub lits : Option (List Lit)
  pub clause : Option Clause

abbrev pub alone_lit : Lit → List Lit
alone_lit l = l ∷ []

abbrev pub stated : AtomOf → Lit
stated a = record { positive = true; atom = a }

abbrev pub denied : AtomOf → Lit
denied a = record { positive = false; atom = a }

abbrev pub open_clause : List Lit → Clause
open_clause lits = record { sorts = []; lits = lits }

-- the clause with its variables within one more, which is outermost
abbrev pub within : ℕ → Clause → Clause
within s c = record { sorts = s ∷ c.sorts; lits = c.lits }

-- all that are there, where each is
abbrev pub all_there : {X : Type 0} → List (Option X) → Option (List X)
all_there [] = Some []
all_there (None ∷ xs) = None
all_there (Some x ∷ xs) = option_map (λ ys. x ∷ ys) (all_there xs)

abbrev pub no_view : View
no_view = record { atom = None; lit = None; lits = None; clause = None }

abbrev pub view_of_lits : Option (List Lit) → View
view_of_lits lits = record { atom = None; lit = None; lits = lits; clause = option_map open_clause lits }

abbrev pub view_of_lit : Option Lit → View
view_of_lit lit = record { atom = None; lit = lit; lits = option_map alone_lit lit; clause = option_map open_clause (option_map alone_lit lit) }

abbrev pub view_of_atom : AtomOf → View
view_of_atom a = record { atom = Some a; lit = Some (stated a); lits = Some (alone_lit (stated a)); clause = Some (open_clause (alone_lit (stated a))) }

-- truth is an atom, and another conjunction is nothing
abbrev pub view_of_and : List View → View
view_of_and [] = view_of_atom True
view_of_and (v ∷ views) = no_view

-- falsehood is an atom and, as a whole, the clause without literals
abbrev pub view_of_or : List View → View
view_of_or [] = record { atom = Some False; lit = Some (stated False); lits = Some []; clause = Some (open_clause []) }
view_of_or (v ∷ views) = view_of_lits (all_there (map (λ (u : View). u.lit) (v ∷ views)))

abbrev pub view_step : form.Form-F View → View
view_step (form.Atom p ts) = view_of_atom (Pred p ts)
view_step (form.Eq l r) = view_of_atom (Equation l r)
view_step (form.Not a) = view_of_lit (option_map denied a.atom)
view_step (form.And views) = view_of_and views
view_step (form.Or views) = view_of_or views
view_step (form.Imp a b) = no_view
view_step (form.Iff a b) = no_view
view_step (form.All s a) = record { atom = None; lit = None; lits = None; clause = option_map (within s) a.clause }
view_step (form.Ex s a) = no_view

unfoldable pub view_of : Form → View
view_of = fold-Form View view_step

-- the clause that the formula is, if it is one
abbrev pub clause_of : Form → Option Clause
clause_of a = (view_of a).clause

-- The formula that a clause stands for.
abbrev pub form_of_atom : AtomOf → Form
form_of_atom (Pred p ts) = Atom p ts
form_of_atom (Equation l r) = Eq l r
form_of_atom True = And []
form_of_atom False = Or []

abbrev pub form_of_lit : Lit → Form
form_of_lit l = signed l.positive (form_of_atom l.atom)

-- one literal alone is itself
abbrev pub form_of_lits : List Lit → Form
form_of_lits [] = Or []
form_of_lits (l ∷ []) = form_of_lit l
form_of_lits (l ∷ k ∷ lits) = Or (map form_of_lit (l ∷ k ∷ lits))

-- All of these sorts over the formula, the first outermost
abbrev pub closed_by : List ℕ → Form → Form
closed_by [] a = a
closed_by (s ∷ sorts) a = All s (closed_by sorts a)

-- All of its sorts over its literals
abbrev pub closed : Clause → Form
closed c = closed_by c.sorts (form_of_lits c.lits)

-- its only literal is falsehood, not denied
abbrev pub IsLoneFalsehood : Clause → Type 0
IsLoneFalsehood c = c.lits ≡ stated False ∷ []

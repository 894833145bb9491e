-- Paths through a normal form, and the clause that a path reaches: one member of each conjunction is chosen, all
-- members of each disjunction are taken, universal quantifiers are gone through and existential ones never.
use Rattle.std.specs.Prelude.{ℕ, ◌≡◌, Bool, true, false, if◌then◌else◌, List, [], ◌∷◌, ◌++◌, length, map, Option, Some}
use Rattle.std.specs.Prelude.{None, slice_get}
use Rattle.std.specs.Option.{option_map}
use Rattle.fof_terms.specs.Lift.{lifted_term}
use Rattle.fof_terms.specs.declared.form.Form.{Form}
use Rattle.fof_terms.specs.declared.form.Form.TheViews.{out-Form}
use Rattle.clause_form.specs.declared.path.Parent.{Parent}
use Rattle.clause_form.specs.declared.path.Path.{Path}
use Rattle.clause_form.specs.declared.path.Path.TheFolds.{fold-Path}
use Rattle.clause_form.specs.declared.clause.AtomOf.{AtomOf}
use Rattle.clause_form.specs.declared.clause.AtomOf.TheVariants.{Pred, Eq, True, False}
use Rattle.clause_form.specs.declared.clause.Lit.{Lit}
use Rattle.clause_form.specs.declared.clause.Clause.{Clause}
use Rattle.clause_form.specs.ClauseView.{view_of, alone_lit, open_clause, within}
use Rattle.clause_form.specs.Covers.{in_lit}
use Rattle.fof_terms.specs.declared.form.Form.TheOpen as form
use Rattle.clause_form.specs.declared.path.Path.TheOpen as path

-- an atom or an equation
abbrev pub is_plain : AtomOf → Bool
is_plain (Pred p ts) = true
is_plain (Eq l r) = true
is_plain True = false
is_plain False = false

-- of truth and falsehood no literal is reached
abbrev pub plain : Option Lit → Option Lit
plain None = None
plain (Some l) = if is_plain l.atom then Some l else None

-- two clauses over one scope as one: the variables of the second are the nearer ones
abbrev pub beside : Clause → Clause → Clause
beside c d = record {
  sorts = c.sorts ++ d.sorts;
  lits = map (in_lit (lifted_term (length d.sorts) 0)) c.lits ++ map (in_lit (lifted_term (length c.sorts) (length d.sorts))) d.lits;
}

abbrev pub all_beside : List Clause → Clause
all_beside [] = open_clause []
all_beside (c ∷ clauses) = beside c (all_beside clauses)

abbrev pub one_more : {X : Type 0} → Option X → Option (List X) → Option (List X)
one_more None ys = None
one_more (Some x) None = None
one_more (Some x) (Some ys) = Some (x ∷ ys)

-- what each of the ways reaches in the formula at its place
abbrev pub each_reaches : List (Form → Option Clause) → List Form → Option (List Clause)
each_reaches [] [] = Some []
each_reaches [] (a ∷ as_) = None
each_reaches (way ∷ ways) [] = None
each_reaches (way ∷ ways) (a ∷ as_) = one_more (way a) (each_reaches ways as_)

abbrev pub at_member : (Form → Option Clause) → Option Form → Option Clause
at_member way None = None
at_member way (Some a) = way a

abbrev pub pick_in : ℕ → (Form → Option Clause) → form.Form-F Form → Option Clause
pick_in k way (form.And as_) = at_member way (slice_get as_ k)
pick_in k way layer = None

abbrev pub each_in : List (Form → Option Clause) → form.Form-F Form → Option Clause
each_in ways (form.Or as_) = option_map all_beside (each_reaches ways as_)
each_in ways layer = None

abbrev pub under_in : (Form → Option Clause) → form.Form-F Form → Option Clause
under_in way (form.All s a) = option_map (within s) (way a)
under_in way layer = None

abbrev pub path_step : path.Path-F (Form → Option Clause) → Form → Option Clause
path_step path.Leaf a = option_map open_clause (option_map alone_lit (plain (view_of a).lit))
path_step (path.Pick k way) a = pick_in k way (out-Form a)
path_step (path.Each ways) a = each_in ways (out-Form a)
path_step (path.Under way) a = under_in way (out-Form a)

-- the clause that the path reaches in the formula, if it fits the formula
unfoldable pub reached : Path → Form → Option Clause
reached = fold-Path (Form → Option Clause) path_step

-- the clause is one of the formula's, by some path
abbrev pub IsReached : Form → Clause → Type 0
IsReached a c = (p : Path) × (reached p a ≡ Some c)

-- the formulas of the parents
abbrev pub forms_of : List Parent → List Form
forms_of parents = map (λ (p : Parent). p.form) parents

-- Formulas without variables and equations, and their truth under a valuation of the atoms, by the usual recursion.
use Rattle.std.specs.Prelude.{◌≡◌, ◌&&◌, ◌||◌, ◌++◌, ◌∷◌, [], Bool, true, false, not, if◌then◌else◌, List, map, flat_map}
use Rattle.std.specs.List.{Contains, list_all, list_any}
use Rattle.fof_terms.specs.declared.form.Form.{Form}
use Rattle.fof_terms.specs.declared.form.Form.TheFolds.{fold-Form}
use Rattle.fof_terms.specs.declared.form.Form.TheOpen as form
use Rattle.clause_form.specs.declared.clause.AtomOf.{AtomOf}
use Rattle.clause_form.specs.declared.clause.AtomOf.TheVariants.{Pred, Eq}
use Rattle.clause_form.specs.declared.clause.Lit.{Lit}
use Rattle.clause_form.specs.declared.clause.Clause.{Clause}
use Rattle.clause_form.specs.Clauses.{clauses_in}
use Rattle.clause_form.specs.Norm.{norm_of}
use Rattle.sat_step.specs.declared.decision.Decision.{Decision}
use Rattle.sat_step.specs.declared.decision.Decision.TheVariants.{Refuted, Valuation as Satisfied}

abbrev pub propositional_step : form.Form-F Bool → Bool
propositional_step (form.Atom p ts) = true
propositional_step (form.Eq l r) = false
propositional_step (form.Not a) = a
propositional_step (form.And as_) = list_all (λ a. a) as_
propositional_step (form.Or as_) = list_all (λ a. a) as_
propositional_step (form.Imp a b) = a && b
propositional_step (form.Iff a b) = a && b
propositional_step (form.All s a) = false
propositional_step (form.Ex s a) = false

-- the formula has no quantifier and no equation
unfoldable pub is_propositional : Form → Bool
is_propositional = fold-Form Bool propositional_step

-- a valuation: which atoms are true
abbrev pub Valuation : Type 0
Valuation = AtomOf → Bool

-- of a quantified formula, which is not propositional, the truth of its body is taken
abbrev pub truth_step : Valuation → form.Form-F Bool → Bool
truth_step v (form.Atom p ts) = v (Pred p ts)
truth_step v (form.Eq l r) = v (Eq l r)
truth_step v (form.Not a) = not a
truth_step v (form.And as_) = list_all (λ a. a) as_
truth_step v (form.Or as_) = list_any (λ a. a) as_
truth_step v (form.Imp a b) = not a || b
truth_step v (form.Iff a b) = (a && b) || (not a && not b)
truth_step v (form.All s a) = a
truth_step v (form.Ex s a) = a

-- the formula is true under the valuation
unfoldable pub is_true : Valuation → Form → Bool
is_true v = fold-Form Bool (truth_step v)

-- a literal, and a clause without variables, is true under the valuation
abbrev pub lit_is_true : Valuation → Lit → Bool
lit_is_true v l = if l.positive then v l.atom else not (v l.atom)

abbrev pub clause_is_true : Valuation → Clause → Bool
clause_is_true v c = list_any (lit_is_true v) c.lits

-- the normal forms of the parents and of the negation of the line
abbrev pub step_norms : List Form → Form → List Form
step_norms parents line = map (norm_of true) parents ++ norm_of false line ∷ []

-- a step is propositional where these are
abbrev pub IsPropositionalStep : List Form → Form → Type 0
IsPropositionalStep parents line = (a : Form) → Contains (step_norms parents line) a → is_propositional a ≡ true

-- The parents entail the line: each valuation that makes the normal forms of all parents true makes that of the line's
-- negation false.
abbrev pub Entails : List Form → Form → Type 0
Entails parents line =
    (v : Valuation) → ((a : Form) → Contains parents a → is_true v (norm_of true a) ≡ true) → is_true v (norm_of false line) ≡ false

-- the clauses of these normal forms
abbrev pub propositional_clauses : List Form → Form → List Clause
propositional_clauses parents line = flat_map clauses_in (step_norms parents line)

-- what a decision of these clauses says of the step
abbrev pub DecidesStep : List Form → Form → Decision → Type 0
DecidesStep parents line (Refuted log) = Entails parents line
DecidesStep parents line (Satisfied lits) = Entails parents line → ⊥

-- Lemmas on what specs/ClauseView defines.
use Rattle.std.specs.Prelude.{ℕ, ◌≡◌, Bool, true, false, List, [], ◌∷◌, ◌++◌, map, Option, Some, None}
use Rattle.std.specs.Option.{option_map}
use Rattle.fof_terms.proofs.Trees.{fold-Atom, fold-Eq, fold-Not, fold-And, fold-Or, fold-Imp, fold-Iff, fold-All, fold-Ex}
use Rattle.fof_terms.specs.declared.term.Term.{Term}
use Rattle.fof_terms.specs.declared.form.Form.{Form, Atom, Eq, Not, And, Or, Imp, Iff, All, Ex}
use Rattle.fof_terms.specs.declared.form.Form.TheFolds.{fold-Form}
use Rattle.clause_form.specs.declared.clause.AtomOf.{AtomOf}
use Rattle.clause_form.specs.declared.clause.AtomOf.TheVariants.{Pred, Eq as Equation, True, False}
use Rattle.clause_form.specs.declared.clause.Lit.{Lit}
use Rattle.clause_form.specs.declared.clause.Clause.{Clause}
use Rattle.clause_form.specs.ClauseView.{View, view_step, view_of}
use Rattle.fof_terms.specs.declared.form.Form.TheOpen as form

-- The equations of these words.
pub view_of-Atom : (p : ℕ) (ts : List Term) → view_of (Atom p ts) ≡ view_step (form.Atom p ts)
unfolding view_of
view_of-Atom p ts = fold-Atom (View) view_step p ts

pub view_of-Eq : (l r : Term) → view_of (Eq l r) ≡ view_step (form.Eq l r)
unfolding view_of
view_of-Eq l r = fold-Eq (View) view_step l r

pub view_of-Not : (a : Form) → view_of (Not a) ≡ view_step (form.Not (view_of a))
unfolding view_of
view_of-Not a = fold-Not (View) view_step a

pub view_of-And : (as_ : List Form) → view_of (And as_) ≡ view_step (form.And (map view_of as_))
unfolding view_of
view_of-And as_ = fold-And (View) view_step as_

pub view_of-Or : (as_ : List Form) → view_of (Or as_) ≡ view_step (form.Or (map view_of as_))
unfolding view_of
view_of-Or as_ = fold-Or (View) view_step as_

pub view_of-Imp : (a b : Form) → view_of (Imp a b) ≡ view_step (form.Imp (view_of a) (view_of b))
unfolding view_of
view_of-Imp a b = fold-Imp (View) view_step a b

pub view_of-Iff : (a b : Form) → view_of (Iff a b) ≡ view_step (form.Iff (view_of a) (view_of b))
unfolding view_of
view_of-Iff a b = fold-Iff (View) view_step a b

pub view_of-All : (s : ℕ) (a : Form) → view_of (All s a) ≡ view_step (form.All s (view_of a))
unfolding view_of
view_of-All s a = fold-All (View) view_step s a

pub view_of-Ex : (s : ℕ) (a : Form) → view_of (Ex s a) ≡ view_step (form.Ex s (view_of a))
unfolding view_of
view_of-Ex s a = fold-Ex (View) view_step s a

pub ruleset view_of_equations = (view_of-Atom, view_of-Eq, view_of-Not, view_of-And, view_of-Or, view_of-Imp, view_of-Iff, view_of-All, view_of-Ex)

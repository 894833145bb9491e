-- Lemmas on what specs/Clauses defines.
use Rattle.std.specs.Prelude.{ℕ, ◌+◌, ◌≡◌, List, [], ◌∷◌, ◌++◌, map, flat_map, Option, Some, None, true}
use Rattle.std.specs.Option.{option_map}
use Rattle.std.proofs.Common.{zero, suc}
use Rattle.fof_terms.proofs.Trees.{fold-Atom, fold-Eq, fold-Not, fold-And, fold-Or, fold-Imp, fold-Iff, fold-All, fold-Ex}
use Rattle.fof_terms.specs.Lift.{lifted_term}
use Rattle.fof_terms.specs.declared.term.Term.{Term, Var, App}
use Rattle.fof_terms.specs.declared.form.Form.{Form, Atom, Eq, Not, And, Or, Imp, Iff, All, Ex}
use Rattle.fof_terms.specs.declared.form.Form.TheFolds.{fold-Form}
use Rattle.clause_form.specs.declared.clause.AtomOf.{AtomOf}
use Rattle.clause_form.specs.declared.clause.AtomOf.TheVariants.{Pred, Eq as Equation}
use Rattle.clause_form.specs.declared.clause.Lit.{Lit}
use Rattle.clause_form.specs.declared.clause.Clause.{Clause}
use Rattle.clause_form.specs.ClauseView.{alone_lit, stated, denied, open_clause, within}
use Rattle.clause_form.specs.Images.{image}
use Rattle.clause_form.specs.Norm.{norm_of}
use Rattle.clause_form.specs.Paths.{all_beside}
use Rattle.clause_form.specs.Clauses.{Maker, skolem_step, skolem_made, Clausal, clausal_step, clausal}
use Rattle.fof_terms.specs.declared.form.Form.TheOpen as form

-- The equations of these words.
pub skolem_made-Atom : (p : ℕ) (ts : List Term) → skolem_made (Atom p ts) ≡ skolem_step (form.Atom p ts)
unfolding skolem_made
skolem_made-Atom p ts = fold-Atom Maker skolem_step p ts

pub skolem_made-Eq : (l r : Term) → skolem_made (Eq l r) ≡ skolem_step (form.Eq l r)
unfolding skolem_made
skolem_made-Eq l r = fold-Eq Maker skolem_step l r

pub skolem_made-Not : (a : Form) → skolem_made (Not a) ≡ skolem_step (form.Not (skolem_made a))
unfolding skolem_made
skolem_made-Not a = fold-Not Maker skolem_step a

pub skolem_made-And : (as_ : List Form) → skolem_made (And as_) ≡ skolem_step (form.And (map skolem_made as_))
unfolding skolem_made
skolem_made-And as_ = fold-And Maker skolem_step as_

pub skolem_made-Or : (as_ : List Form) → skolem_made (Or as_) ≡ skolem_step (form.Or (map skolem_made as_))
unfolding skolem_made
skolem_made-Or as_ = fold-Or Maker skolem_step as_

pub skolem_made-Imp : (a b : Form) → skolem_made (Imp a b) ≡ skolem_step (form.Imp (skolem_made a) (skolem_made b))
unfolding skolem_made
skolem_made-Imp a b = fold-Imp Maker skolem_step a b

pub skolem_made-Iff : (a b : Form) → skolem_made (Iff a b) ≡ skolem_step (form.Iff (skolem_made a) (skolem_made b))
unfolding skolem_made
skolem_made-Iff a b = fold-Iff Maker skolem_step a b

pub skolem_made-All : (q : ℕ) (a : Form) → skolem_made (All q a) ≡ skolem_step (form.All q (skolem_made a))
unfolding skolem_made
skolem_made-All q a = fold-All Maker skolem_step q a

pub skolem_made-Ex : (q : ℕ) (a : Form) → skolem_made (Ex q a) ≡ skolem_step (form.Ex q (skolem_made a))
unfolding skolem_made
skolem_made-Ex q a = fold-Ex Maker skolem_step q a

pub clausal-Atom : (p : ℕ) (ts : List Term) → clausal (Atom p ts) ≡ clausal_step (form.Atom p ts)
unfolding clausal
clausal-Atom p ts = fold-Atom Clausal clausal_step p ts

pub clausal-Eq : (l r : Term) → clausal (Eq l r) ≡ clausal_step (form.Eq l r)
unfolding clausal
clausal-Eq l r = fold-Eq Clausal clausal_step l r

pub clausal-Not : (a : Form) → clausal (Not a) ≡ clausal_step (form.Not (clausal a))
unfolding clausal
clausal-Not a = fold-Not Clausal clausal_step a

pub clausal-And : (as_ : List Form) → clausal (And as_) ≡ clausal_step (form.And (map clausal as_))
unfolding clausal
clausal-And as_ = fold-And Clausal clausal_step as_

pub clausal-Or : (as_ : List Form) → clausal (Or as_) ≡ clausal_step (form.Or (map clausal as_))
unfolding clausal
clausal-Or as_ = fold-Or Clausal clausal_step as_

pub clausal-Imp : (a b : Form) → clausal (Imp a b) ≡ clausal_step (form.Imp (clausal a) (clausal b))
unfolding clausal
clausal-Imp a b = fold-Imp Clausal clausal_step a b

pub clausal-Iff : (a b : Form) → clausal (Iff a b) ≡ clausal_step (form.Iff (clausal a) (clausal b))
unfolding clausal
clausal-Iff a b = fold-Iff Clausal clausal_step a b

pub clausal-All : (s : ℕ) (a : Form) → clausal (All s a) ≡ clausal_step (form.All s (clausal a))
unfolding clausal
clausal-All s a = fold-All Clausal clausal_step s a

pub clausal-Ex : (s : ℕ) (a : Form) → clausal (Ex s a) ≡ clausal_step (form.Ex s (clausal a))
unfolding clausal
clausal-Ex s a = fold-Ex Clausal clausal_step s a

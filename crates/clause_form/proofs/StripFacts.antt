-- Lemmas on what specs/Strip defines.
use Rattle.std.specs.Prelude.{ℕ, ◌≡◌, List, map}
use Rattle.fof_terms.proofs.Trees.{fold-Atom, fold-Eq, fold-Not, fold-And, fold-Or, fold-Imp, fold-Iff, fold-All, fold-Ex}
use Rattle.fof_terms.specs.declared.term.Term.{Term}
use Rattle.fof_terms.specs.declared.form.Form.{Form, Atom, Eq, Not, And, Or, Imp, Iff, All, Ex}
use Rattle.fof_terms.specs.declared.form.Form.TheFolds.{fold-Form}
use Rattle.clause_form.specs.Strip.{strip_step, strip_of}
use Rattle.fof_terms.specs.declared.form.Form.TheOpen as form

-- The equations of this word.
pub strip_of-Atom : (p : ℕ) (ts : List Term) → strip_of (Atom p ts) ≡ Atom p ts
unfolding strip_of
strip_of-Atom p ts = fold-Atom (Form) strip_step p ts

pub strip_of-Eq : (l r : Term) → strip_of (Eq l r) ≡ Eq l r
unfolding strip_of
strip_of-Eq l r = fold-Eq (Form) strip_step l r

pub strip_of-Not : (a : Form) → strip_of (Not a) ≡ Not (strip_of a)
unfolding strip_of
strip_of-Not a = fold-Not (Form) strip_step a

pub strip_of-And : (as_ : List Form) → strip_of (And as_) ≡ And (map strip_of as_)
unfolding strip_of
strip_of-And as_ = fold-And (Form) strip_step as_

pub strip_of-Or : (as_ : List Form) → strip_of (Or as_) ≡ Or (map strip_of as_)
unfolding strip_of
strip_of-Or as_ = fold-Or (Form) strip_step as_

pub strip_of-Imp : (a b : Form) → strip_of (Imp a b) ≡ Imp (strip_of a) (strip_of b)
unfolding strip_of
strip_of-Imp a b = fold-Imp (Form) strip_step a b

pub strip_of-Iff : (a b : Form) → strip_of (Iff a b) ≡ Iff (strip_of a) (strip_of b)
unfolding strip_of
strip_of-Iff a b = fold-Iff (Form) strip_step a b

pub strip_of-All : (s : ℕ) (a : Form) → strip_of (All s a) ≡ All s (strip_of a)
unfolding strip_of
strip_of-All s a = fold-All (Form) strip_step s a

pub strip_of-Ex : (s : ℕ) (a : Form) → strip_of (Ex s a) ≡ All s (strip_of a)
unfolding strip_of
strip_of-Ex s a = fold-Ex (Form) strip_step s a

pub ruleset strip_of_equations = (strip_of-Atom, strip_of-Eq, strip_of-Not, strip_of-And, strip_of-Or, strip_of-Imp, strip_of-Iff, strip_of-All, strip_of-Ex)

-- Lemmas on what specs/code/Leading defines.
use Rattle.std.specs.Prelude.{ℕ, ◌+◌, ◌≡◌, List}
use Rattle.fof_terms.proofs.Trees.{fold-Atom, fold-Eq, fold-Not, fold-And, fold-Or, fold-Imp, fold-Iff, fold-All, fold-Ex}
use Rattle.fof_terms.specs.declared.term.Term.{Term}
use Rattle.fof_terms.specs.declared.form.Form.{Form, Atom, Eq, Not, And, Or, Imp, Iff, All, Ex}
use Rattle.fof_terms.specs.declared.form.Form.TheFolds.{fold-Form}
use Rattle.skolem_fresh.specs.code.Leading.{leading_step, leading}
use Rattle.fof_terms.specs.declared.form.Form.TheOpen as form

-- The equations of this word.
pub leading-Atom : (p : ℕ) (ts : List Term) → leading (Atom p ts) ≡ 0
unfolding leading
leading-Atom p ts = fold-Atom ℕ leading_step p ts

pub leading-Eq : (l r : Term) → leading (Eq l r) ≡ 0
unfolding leading
leading-Eq l r = fold-Eq ℕ leading_step l r

pub leading-Not : (a : Form) → leading (Not a) ≡ 0
unfolding leading
leading-Not a = fold-Not ℕ leading_step a

pub leading-And : (as_ : List Form) → leading (And as_) ≡ 0
unfolding leading
leading-And as_ = fold-And ℕ leading_step as_

pub leading-Or : (as_ : List Form) → leading (Or as_) ≡ 0
unfolding leading
leading-Or as_ = fold-Or ℕ leading_step as_

pub leading-Imp : (a b : Form) → leading (Imp a b) ≡ 0
unfolding leading
leading-Imp a b = fold-Imp ℕ leading_step a b

pub leading-Iff : (a b : Form) → leading (Iff a b) ≡ 0
unfolding leading
leading-Iff a b = fold-Iff ℕ leading_step a b

pub leading-All : (s : ℕ) (a : Form) → leading (All s a) ≡ 0
unfolding leading
leading-All s a = fold-All ℕ leading_step s a

pub leading-Ex : (s : ℕ) (a : Form) → leading (Ex s a) ≡ leading a + 1
unfolding leading
leading-Ex s a = fold-Ex ℕ leading_step s a

pub ruleset leading_equations = (leading-Atom, leading-Eq, leading-Not, leading-And, leading-Or, leading-Imp, leading-Iff, leading-All, leading-Ex)

-- Lemmas on what specs/Sizes defines.
use Rattle.std.specs.Prelude.{ℕ, ◌≡◌, ◌+◌, ◌*◌, List, [], ◌∷◌, map, sum}
use Rattle.fof_terms.proofs.Trees.{fold-Atom, fold-Eq, fold-Not, fold-And, fold-Or, fold-Imp, fold-Iff, fold-All, fold-Ex}
use Rattle.fof_terms.specs.declared.term.Term.{Term}
use Rattle.fof_terms.specs.declared.form.Form.{Form, Atom, Eq, Not, And, Or, Imp, Iff, All, Ex}
use Rattle.fof_terms.specs.declared.form.Form.TheFolds.{fold-Form}
use Rattle.clause_form.specs.Sizes.{norm_size_step, norm_size_of, product, clause_count_step, clause_count_of}
use Rattle.fof_terms.specs.declared.form.Form.TheOpen as form

-- The equations of these words.
pub norm_size_of-Atom : (p : ℕ) (ts : List Term) → norm_size_of (Atom p ts) ≡ 1
unfolding norm_size_of
norm_size_of-Atom p ts = fold-Atom (ℕ) norm_size_step p ts

pub norm_size_of-Eq : (l r : Term) → norm_size_of (Eq l r) ≡ 1
unfolding norm_size_of
norm_size_of-Eq l r = fold-Eq (ℕ) norm_size_step l r

pub norm_size_of-Not : (a : Form) → norm_size_of (Not a) ≡ norm_size_of a
unfolding norm_size_of
norm_size_of-Not a = fold-Not (ℕ) norm_size_step a

pub norm_size_of-And : (as_ : List Form) → norm_size_of (And as_) ≡ 1 + sum (map norm_size_of as_)
unfolding norm_size_of
norm_size_of-And as_ = fold-And (ℕ) norm_size_step as_

pub norm_size_of-Or : (as_ : List Form) → norm_size_of (Or as_) ≡ 1 + sum (map norm_size_of as_)
unfolding norm_size_of
norm_size_of-Or as_ = fold-Or (ℕ) norm_size_step as_

pub norm_size_of-Imp : (a b : Form) → norm_size_of (Imp a b) ≡ 1 + (norm_size_of a + norm_size_of b)
unfolding norm_size_of
norm_size_of-Imp a b = fold-Imp (ℕ) norm_size_step a b

pub norm_size_of-Iff : (a b : Form) → norm_size_of (Iff a b) ≡ 3 + 2 * (norm_size_of a + norm_size_of b)
unfolding norm_size_of
norm_size_of-Iff a b = fold-Iff (ℕ) norm_size_step a b

pub norm_size_of-All : (s : ℕ) (a : Form) → norm_size_of (All s a) ≡ 1 + norm_size_of a
unfolding norm_size_of
norm_size_of-All s a = fold-All (ℕ) norm_size_step s a

pub norm_size_of-Ex : (s : ℕ) (a : Form) → norm_size_of (Ex s a) ≡ 1 + norm_size_of a
unfolding norm_size_of
norm_size_of-Ex s a = fold-Ex (ℕ) norm_size_step s a

pub ruleset norm_size_of_equations = (norm_size_of-Atom, norm_size_of-Eq, norm_size_of-Not, norm_size_of-And, norm_size_of-Or, norm_size_of-Imp, norm_size_of-Iff, norm_size_of-All, norm_size_of-Ex)

pub clause_count_of-Atom : (p : ℕ) (ts : List Term) → clause_count_of (Atom p ts) ≡ 1
unfolding clause_count_of
clause_count_of-Atom p ts = fold-Atom (ℕ) clause_count_step p ts

pub clause_count_of-Eq : (l r : Term) → clause_count_of (Eq l r) ≡ 1
unfolding clause_count_of
clause_count_of-Eq l r = fold-Eq (ℕ) clause_count_step l r

pub clause_count_of-Not : (a : Form) → clause_count_of (Not a) ≡ 1
unfolding clause_count_of
clause_count_of-Not a = fold-Not (ℕ) clause_count_step a

pub clause_count_of-And : (as_ : List Form) → clause_count_of (And as_) ≡ sum (map clause_count_of as_)
unfolding clause_count_of
clause_count_of-And as_ = fold-And (ℕ) clause_count_step as_

pub clause_count_of-Or : (as_ : List Form) → clause_count_of (Or as_) ≡ product (map clause_count_of as_)
unfolding clause_count_of
clause_count_of-Or as_ = fold-Or (ℕ) clause_count_step as_

pub clause_count_of-Imp : (a b : Form) → clause_count_of (Imp a b) ≡ 1
unfolding clause_count_of
clause_count_of-Imp a b = fold-Imp (ℕ) clause_count_step a b

pub clause_count_of-Iff : (a b : Form) → clause_count_of (Iff a b) ≡ 1
unfolding clause_count_of
clause_count_of-Iff a b = fold-Iff (ℕ) clause_count_step a b

pub clause_count_of-All : (s : ℕ) (a : Form) → clause_count_of (All s a) ≡ clause_count_of a
unfolding clause_count_of
clause_count_of-All s a = fold-All (ℕ) clause_count_step s a

pub clause_count_of-Ex : (s : ℕ) (a : Form) → clause_count_of (Ex s a) ≡ clause_count_of a
unfolding clause_count_of
clause_count_of-Ex s a = fold-Ex (ℕ) clause_count_step s a

pub ruleset clause_count_of_equations = (clause_count_of-Atom, clause_count_of-Eq, clause_count_of-Not, clause_count_of-And, clause_count_of-Or, clause_count_of-Imp, clause_count_of-Iff, clause_count_of-All, clause_count_of-Ex)

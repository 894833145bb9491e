-- The size of a term or a formula by those of its parts.
use Rattle.std.specs.Prelude.{ℕ, List, ◌≡◌, map}
use Rattle.tptp_base.specs.Sizes.{Size, small, one_variable, both, list_of}
use Rattle.fof_terms.specs.declared.term.Term.{Term, Var, App}
use Rattle.fof_terms.specs.declared.form.Form.{Form, Atom, Eq, Not, And, Or, Imp, Iff, All, Ex}
use Rattle.fof_terms.specs.Sizes.{term_size_step, term_size, form_size_step, form_size}
use Rattle.fof_terms.proofs.Trees.{fold-Var, fold-App, fold-Atom, fold-Eq, fold-Not, fold-And, fold-Or, fold-Imp, fold-Iff, fold-All, fold-Ex}

pub term_size-Var : (k : ℕ) → term_size (Var k) ≡ small
unfolding term_size
term_size-Var k = fold-Var Size term_size_step k

pub term_size-App : (f : ℕ) (ts : List Term) → term_size (App f ts) ≡ list_of (map term_size ts)
unfolding term_size
term_size-App f ts = fold-App Size term_size_step f ts

pub form_size-Atom : (p : ℕ) (ts : List Term) → form_size (Atom p ts) ≡ list_of (map term_size ts)
unfolding form_size
form_size-Atom p ts = fold-Atom Size form_size_step p ts

pub form_size-Eq : (s t : Term) → form_size (Eq s t) ≡ both (term_size s) (term_size t)
unfolding form_size
form_size-Eq s t = fold-Eq Size form_size_step s t

pub form_size-Not : (a : Form) → form_size (Not a) ≡ form_size a
unfolding form_size
form_size-Not a = fold-Not Size form_size_step a

pub form_size-And : (as_ : List Form) → form_size (And as_) ≡ list_of (map form_size as_)
unfolding form_size
form_size-And as_ = fold-And Size form_size_step as_

pub form_size-Or : (as_ : List Form) → form_size (Or as_) ≡ list_of (map form_size as_)
unfolding form_size
form_size-Or as_ = fold-Or Size form_size_step as_

pub form_size-Imp : (a b : Form) → form_size (Imp a b) ≡ both (form_size a) (form_size b)
unfolding form_size
form_size-Imp a b = fold-Imp Size form_size_step a b

pub form_size-Iff : (a b : Form) → form_size (Iff a b) ≡ both (form_size a) (form_size b)
unfolding form_size
form_size-Iff a b = fold-Iff Size form_size_step a b

pub form_size-All : (s : ℕ) (a : Form) → form_size (All s a) ≡ both one_variable (form_size a)
unfolding form_size
form_size-All s a = fold-All Size form_size_step s a

pub form_size-Ex : (s : ℕ) (a : Form) → form_size (Ex s a) ≡ both one_variable (form_size a)
unfolding form_size
form_size-Ex s a = fold-Ex Size form_size_step s a

-- The equations of formulas without lists of one, node by node.
use Rattle.std.specs.Prelude.{ℕ, ◌≡◌, ◌&&◌, not, Bool, true, List, [], ◌∷◌, map, refl}
use Rattle.std.specs.List.{AllByRecursion, list_all}
use Rattle.std.proofs.lemmas.Bool.{and_parts, and_from}
use Rattle.fof_terms.proofs.Trees.{fold-Atom, fold-Eq, fold-Not, fold-And, fold-Or, fold-Imp, fold-Iff, fold-All, fold-Ex}
use Rattle.fof_terms.specs.declared.term.Term.{Term}
use Rattle.fof_terms.specs.declared.form.Form.{Form, Atom, Eq, Not, And, Or, Imp, Iff, All, Ex}
use Rattle.printed_forms.specs.Lists.{are_listed, has_no_list_of_one, is_one, listed_step}

pub listed-Atom : (p : ℕ) (ts : List Term) → has_no_list_of_one (Atom p ts) ≡ true
unfolding has_no_list_of_one
listed-Atom p ts = fold-Atom Bool listed_step p ts

pub listed-Eq : (l r : Term) → has_no_list_of_one (Eq l r) ≡ true
unfolding has_no_list_of_one
listed-Eq l r = fold-Eq Bool listed_step l r

pub listed-Not : (a : Form) → has_no_list_of_one (Not a) ≡ has_no_list_of_one a
unfolding has_no_list_of_one
listed-Not a = fold-Not Bool listed_step a

pub listed-And : (as_ : List Form) → has_no_list_of_one (And as_) ≡ are_listed (map has_no_list_of_one as_)
unfolding has_no_list_of_one
listed-And as_ = fold-And Bool listed_step as_

pub listed-Or : (as_ : List Form) → has_no_list_of_one (Or as_) ≡ are_listed (map has_no_list_of_one as_)
unfolding has_no_list_of_one
listed-Or as_ = fold-Or Bool listed_step as_

pub listed-Imp : (a b : Form) → has_no_list_of_one (Imp a b) ≡ (has_no_list_of_one a && has_no_list_of_one b)
unfolding has_no_list_of_one
listed-Imp a b = fold-Imp Bool listed_step a b

pub listed-Iff : (a b : Form) → has_no_list_of_one (Iff a b) ≡ (has_no_list_of_one a && has_no_list_of_one b)
unfolding has_no_list_of_one
listed-Iff a b = fold-Iff Bool listed_step a b

pub listed-All : (s : ℕ) (a : Form) → has_no_list_of_one (All s a) ≡ has_no_list_of_one a
unfolding has_no_list_of_one
listed-All s a = fold-All Bool listed_step s a

pub listed-Ex : (s : ℕ) (a : Form) → has_no_list_of_one (Ex s a) ≡ has_no_list_of_one a
unfolding has_no_list_of_one
listed-Ex s a = fold-Ex Bool listed_step s a

abbrev pub IsListed : Form → Type 0
IsListed a = has_no_list_of_one a ≡ true

pub each_listed : (as_ : List Form) → list_all (λ part. part) (map has_no_list_of_one as_) ≡ true → AllByRecursion IsListed as_
each_listed [] all = tt
each_listed (a ∷ as_) all = (let parts = and_parts (has_no_list_of_one a) (list_all (λ part. part) (map has_no_list_of_one as_)) all in (parts.0, each_listed as_ parts.1))

pub all_listed : (as_ : List Form) → AllByRecursion IsListed as_ → list_all (λ part. part) (map has_no_list_of_one as_) ≡ true
all_listed [] all = refl
all_listed (a ∷ as_) all = and_from (has_no_list_of_one a) (list_all (λ part. part) (map has_no_list_of_one as_)) all.0 (all_listed as_ all.1)

-- the members of a list that is so
pub members_listed : (as_ : List Form) → are_listed (map has_no_list_of_one as_) ≡ true → AllByRecursion IsListed as_
members_listed as_ all = each_listed as_ (and_parts (not (is_one (map has_no_list_of_one as_))) (list_all (λ part. part) (map has_no_list_of_one as_)) all).1

-- a list of two members or more
pub two_listed : (a b : Form) (as_ : List Form) → AllByRecursion IsListed (a ∷ b ∷ as_) → are_listed (map has_no_list_of_one (a ∷ b ∷ as_)) ≡ true
two_listed a b as_ all = all_listed (a ∷ b ∷ as_) all

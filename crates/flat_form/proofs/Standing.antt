-- What may stand in a joined node.
use Rattle.std.specs.Prelude.{ℕ, ◌≡◌, Bool, true, false, not, List, [], ◌∷◌, map, refl}
use Rattle.std.proofs.Common.{ap, ◌∙◌, ◌⊎◌, inl, inr}
use Rattle.fof_terms.proofs.Induction.{form_induction}
use Rattle.fof_terms.proofs.Walks.{FormWalk}
use Rattle.fof_terms.specs.declared.term.Term.{Term}
use Rattle.fof_terms.specs.declared.form.Form.{Form, And, Or}
use Rattle.fof_terms.specs.declared.form.Form.TheViews.{out-Form, outs-Atom, outs-Eq, outs-Not, outs-And, outs-Or, outs-Imp, outs-Iff, outs-All, outs-Ex}
use Rattle.clause_form.specs.Norm.{node, members_of, ends, is_empty_list}
use Rattle.clause_form.proofs.MemberKinds.{members_of-Atom, members_of-Eq, members_of-Not, members_of-And-true, members_of-And-false, members_of-Or-true, members_of-Or-false, members_of-Imp, members_of-Iff, members_of-All, members_of-Ex, ends-Atom, ends-Eq, ends-Not, ends-And-false, ends-Or-true, ends-Imp, ends-Iff, ends-All, ends-Ex}
use Rattle.fof_terms.specs.declared.form.Form.TheOpen as form

abbrev stands_in : Bool → form.Form-F Form → Bool
stands_in true (form.And as_) = false
stands_in true (form.Or as_) = not (is_empty_list as_)
stands_in false (form.And as_) = not (is_empty_list as_)
stands_in false (form.Or as_) = false
stands_in g layer = true

-- the formula may stand in a joined node: it is no node of that kind and doesn't end it
unfoldable pub stands : Bool → Form → Bool
stands g a = stands_in g (out-Form a)

-- What stands in a node.
not_true : (b : Bool) → not b ≡ true → b ≡ false
not_true true e = absurd (let never : false ≡ true = e in cc)
not_true false e = refl

members_true : (a : Form) → stands true a ≡ true → members_of true a ≡ a ∷ []
unfolding stands
members_true = form_induction _ (record {
  atom = λ p ts e. members_of-Atom true p ts;
  eq = λ l r e. members_of-Eq true l r;
  not = λ a ih e. members_of-Not true a;
  and = λ as_ ih e. absurd (let never : false ≡ true = rw (outs-And as_) at e in cc);
  or = λ as_ ih e. members_of-Or-true as_;
  imp = λ a b ih jh e. members_of-Imp true a b;
  iff = λ a b ih jh e. members_of-Iff true a b;
  all = λ s a ih e. members_of-All true s a;
  ex = λ s a ih e. members_of-Ex true s a;
})

ends_true : (a : Form) → stands true a ≡ true → ends true a ≡ false
unfolding stands
ends_true = form_induction _ (record {
  atom = λ p ts e. ends-Atom true p ts;
  eq = λ l r e. ends-Eq true l r;
  not = λ a ih e. ends-Not true a;
  and = λ as_ ih e. absurd (let never : false ≡ true = rw (outs-And as_) at e in cc);
  or = λ as_ ih e. ends-Or-true as_ ∙ not_true (is_empty_list as_) (rw (outs-Or as_) at e);
  imp = λ a b ih jh e. ends-Imp true a b;
  iff = λ a b ih jh e. ends-Iff true a b;
  all = λ s a ih e. ends-All true s a;
  ex = λ s a ih e. ends-Ex true s a;
})

-- it stands there, is a node of that kind, or ends it
abbrev pub StandCases : Bool → Form → Type 0
StandCases g a = (stands g a ≡ true) ⊎ (((as_ : List Form) × (a ≡ node g as_)) ⊎ (a ≡ node (not g) []))

filled_true : (as_ : List Form) → StandCases true (Or as_)
unfolding stands
filled_true [] = inr (inr refl)
filled_true (a ∷ as_) = inl (rw (outs-Or (a ∷ as_)) refl)

filled_false : (as_ : List Form) → StandCases false (And as_)
unfolding stands
filled_false [] = inr (inr refl)
filled_false (a ∷ as_) = inl (rw (outs-And (a ∷ as_)) refl)

cases_true : (a : Form) → StandCases true a
unfolding stands
cases_true = form_induction _ (record {
  atom = λ p ts. inl (rw (outs-Atom p ts) refl);
  eq = λ l r. inl (rw (outs-Eq l r) refl);
  not = λ a ih. inl (rw (outs-Not a) refl);
  and = λ as_ ih. inr (inl (as_, refl));
  or = λ as_ ih. filled_true as_;
  imp = λ a b ih jh. inl (rw (outs-Imp a b) refl);
  iff = λ a b ih jh. inl (rw (outs-Iff a b) refl);
  all = λ s a ih. inl (rw (outs-All s a) refl);
  ex = λ s a ih. inl (rw (outs-Ex s a) refl);
})

members_false : (a : Form) → stands false a ≡ true → members_of false a ≡ a ∷ []
unfolding stands
members_false = form_induction _ (record {
  atom = λ p ts e. members_of-Atom false p ts;
  eq = λ l r e. members_of-Eq false l r;
  not = λ a ih e. members_of-Not false a;
  and = λ as_ ih e. members_of-And-false as_;
  or = λ as_ ih e. absurd (let never : false ≡ true = rw (outs-Or as_) at e in cc);
  imp = λ a b ih jh e. members_of-Imp false a b;
  iff = λ a b ih jh e. members_of-Iff false a b;
  all = λ s a ih e. members_of-All false s a;
  ex = λ s a ih e. members_of-Ex false s a;
})

ends_false : (a : Form) → stands false a ≡ true → ends false a ≡ false
unfolding stands
ends_false = form_induction _ (record {
  atom = λ p ts e. ends-Atom false p ts;
  eq = λ l r e. ends-Eq false l r;
  not = λ a ih e. ends-Not false a;
  and = λ as_ ih e. ends-And-false as_ ∙ not_true (is_empty_list as_) (rw (outs-And as_) at e);
  or = λ as_ ih e. absurd (let never : false ≡ true = rw (outs-Or as_) at e in cc);
  imp = λ a b ih jh e. ends-Imp false a b;
  iff = λ a b ih jh e. ends-Iff false a b;
  all = λ s a ih e. ends-All false s a;
  ex = λ s a ih e. ends-Ex false s a;
})

cases_false : (a : Form) → StandCases false a
unfolding stands
cases_false = form_induction _ (record {
  atom = λ p ts. inl (rw (outs-Atom p ts) refl);
  eq = λ l r. inl (rw (outs-Eq l r) refl);
  not = λ a ih. inl (rw (outs-Not a) refl);
  and = λ as_ ih. filled_false as_;
  or = λ as_ ih. inr (inl (as_, refl));
  imp = λ a b ih jh. inl (rw (outs-Imp a b) refl);
  iff = λ a b ih jh. inl (rw (outs-Iff a b) refl);
  all = λ s a ih. inl (rw (outs-All s a) refl);
  ex = λ s a ih. inl (rw (outs-Ex s a) refl);
})

pub stands_members : (g : Bool) (a : Form) → stands g a ≡ true → members_of g a ≡ a ∷ []
stands_members true = members_true
stands_members false = members_false

pub stands_ends : (g : Bool) (a : Form) → stands g a ≡ true → ends g a ≡ false
stands_ends true = ends_true
stands_ends false = ends_false

pub stands_cases : (g : Bool) (a : Form) → StandCases g a
stands_cases true = cases_true
stands_cases false = cases_false

pub node_members : (g : Bool) (as_ : List Form) → members_of g (node g as_) ≡ as_
node_members true as_ = members_of-And-true as_
node_members false as_ = members_of-Or-false as_

pub end_ends : (g : Bool) → ends g (node (not g) []) ≡ true
end_ends true = ends-Or-true []
end_ends false = ends-And-false []

pub other_members : (g : Bool) → members_of g (node (not g) []) ≡ node (not g) [] ∷ []
other_members true = members_of-Or-true []
other_members false = members_of-And-false []

-- A change of variables alone changes nothing of this.
module _ (f : ℕ → Term → Term) (w : ℕ → Form → Form) (walk : FormWalk f w) (d : ℕ) where
  empty_map : (as_ : List Form) → is_empty_list (map (w d) as_) ≡ is_empty_list as_
  empty_map [] = refl
  empty_map (a ∷ as_) = refl

  walk_true : (a : Form) → stands true (w d a) ≡ stands true a
  unfolding stands
  walk_true = form_induction _ (record {
    atom = λ p ts. rw (walk.atom, outs-Atom, outs-Atom) refl;
    eq = λ l r. rw (walk.eq, outs-Eq, outs-Eq) refl;
    not = λ a ih. rw (walk.not, outs-Not, outs-Not) refl;
    and = λ as_ ih. rw (walk.and, outs-And, outs-And) refl;
    or = λ as_ ih. rw (walk.or, outs-Or, outs-Or) (ap not (empty_map as_));
    imp = λ a b ih jh. rw (walk.imp, outs-Imp, outs-Imp) refl;
    iff = λ a b ih jh. rw (walk.iff, outs-Iff, outs-Iff) refl;
    all = λ s a ih. rw (walk.all, outs-All, outs-All) refl;
    ex = λ s a ih. rw (walk.ex, outs-Ex, outs-Ex) refl;
  })

  walk_false : (a : Form) → stands false (w d a) ≡ stands false a
  unfolding stands
  walk_false = form_induction _ (record {
    atom = λ p ts. rw (walk.atom, outs-Atom, outs-Atom) refl;
    eq = λ l r. rw (walk.eq, outs-Eq, outs-Eq) refl;
    not = λ a ih. rw (walk.not, outs-Not, outs-Not) refl;
    and = λ as_ ih. rw (walk.and, outs-And, outs-And) (ap not (empty_map as_));
    or = λ as_ ih. rw (walk.or, outs-Or, outs-Or) refl;
    imp = λ a b ih jh. rw (walk.imp, outs-Imp, outs-Imp) refl;
    iff = λ a b ih jh. rw (walk.iff, outs-Iff, outs-Iff) refl;
    all = λ s a ih. rw (walk.all, outs-All, outs-All) refl;
    ex = λ s a ih. rw (walk.ex, outs-Ex, outs-Ex) refl;
  })

  pub stands_walk : (g : Bool) (a : Form) → stands g (w d a) ≡ stands g a
  stands_walk true = walk_true
  stands_walk false = walk_false

-- The equations of what a path reaches, and where it fits no formula of that kind.
use Rattle.std.specs.Prelude.{ℕ, ◌≡◌, List, [], ◌∷◌, map, Option, Some, None, slice_get, refl}
use Rattle.std.specs.Option.{option_map}
use Rattle.std.proofs.Common.{ap, sym, ◌∙◌}
use Rattle.fof_terms.proofs.Induction.{form_induction}
use Rattle.fof_terms.specs.declared.form.Form.{Form, Not, And, Or, All}
use Rattle.fof_terms.specs.declared.form.Form.TheViews.{out-Form, outs-Atom, outs-Eq, outs-Not, outs-And, outs-Or, outs-Imp, outs-Iff, outs-All, outs-Ex}
use Rattle.clause_form.specs.declared.path.Path.{Path, Leaf, Pick, Each, Under}
use Rattle.clause_form.specs.declared.path.Path.TheViews.{roll-Path}
use Rattle.clause_form.specs.declared.path.Path.TheFolds.{fold-Path, fold-roll-Path}
use Rattle.clause_form.specs.declared.clause.AtomOf.{AtomOf}
use Rattle.clause_form.specs.declared.clause.AtomOf.TheVariants.{Pred, Eq as Equation, True, False}
use Rattle.clause_form.specs.declared.clause.Lit.{Lit}
use Rattle.clause_form.specs.declared.clause.Clause.{Clause}
use Rattle.clause_form.specs.ClauseView.{View, view_of, view_of_and, view_of_or, denied, stated, open_clause, alone_lit, within, form_of_atom, form_of_lit}
use Rattle.clause_form.proofs.ClauseViewFacts.{view_of-Atom, view_of-Eq, view_of-Not, view_of-And, view_of-Or, view_of-Imp, view_of-Iff, view_of-All, view_of-Ex}
use Rattle.clause_form.specs.Paths.{plain, all_beside, at_member, each_reaches, pick_in, each_in, under_in, path_step, reached}
use denote.Hole.Carrier.{roll}
use Rattle.clause_form.specs.declared.path.Path.TheOpen as path

abbrev Way : Type 0
Way = Form → Option Clause

fold-Leaf : fold-Path Way path_step Leaf ≡ path_step path.Leaf
unfolding roll-Path roll
fold-Leaf = fold-roll-Path Way path_step path.Leaf

fold-Pick : (k : ℕ) (p : Path) → fold-Path Way path_step (Pick k p) ≡ path_step (path.Pick k (fold-Path Way path_step p))
unfolding roll-Path roll
fold-Pick k p = fold-roll-Path Way path_step (path.Pick k p)

fold-Each : (ps : List Path) → fold-Path Way path_step (Each ps) ≡ path_step (path.Each (map (fold-Path Way path_step) ps))
unfolding roll-Path roll
fold-Each ps = fold-roll-Path Way path_step (path.Each ps)

fold-Under : (p : Path) → fold-Path Way path_step (Under p) ≡ path_step (path.Under (fold-Path Way path_step p))
unfolding roll-Path roll
fold-Under p = fold-roll-Path Way path_step (path.Under p)

pub reached-Leaf : (a : Form) → reached Leaf a ≡ option_map open_clause (option_map alone_lit (plain (view_of a).lit))
unfolding reached
reached-Leaf a = ap (λ g. g a) fold-Leaf

pub reached_pick : (k : ℕ) (p : Path) (a : Form) → reached (Pick k p) a ≡ pick_in k (reached p) (out-Form a)
unfolding reached
reached_pick k p a = ap (λ g. g a) (fold-Pick k p)

pub reached_each : (ps : List Path) (a : Form) → reached (Each ps) a ≡ each_in (map reached ps) (out-Form a)
unfolding reached
reached_each ps a = ap (λ g. g a) (fold-Each ps)

pub reached_under : (p : Path) (a : Form) → reached (Under p) a ≡ under_in (reached p) (out-Form a)
unfolding reached
reached_under p a = ap (λ g. g a) (fold-Under p)

pub reached-Pick : (k : ℕ) (p : Path) (as_ : List Form) → reached (Pick k p) (And as_) ≡ at_member (reached p) (slice_get as_ k)
reached-Pick k p as_ = reached_pick k p (And as_) ∙ ap (pick_in k (reached p)) (outs-And as_)

pub reached-Each : (ps : List Path) (as_ : List Form) → reached (Each ps) (Or as_) ≡ option_map all_beside (each_reaches (map reached ps) as_)
reached-Each ps as_ = reached_each ps (Or as_) ∙ ap (each_in (map reached ps)) (outs-Or as_)

pub reached-Under : (p : Path) (s : ℕ) (a : Form) → reached (Under p) (All s a) ≡ option_map (within s) (reached p a)
reached-Under p s a = reached_under p (All s a) ∙ ap (under_in (reached p)) (outs-All s a)

-- A path that picks, takes all or goes under a quantifier fits no other formula.
not_picked : (k : ℕ) (way : Way) (a : Form) → ((as_ : List Form) → a ≡ And as_ → ⊥) → pick_in k way (out-Form a) ≡ None
not_picked k way = form_induction _ (record {
  atom = λ p ts other. rw (outs-Atom p ts) refl;
  eq = λ l r other. rw (outs-Eq l r) refl;
  not = λ a ih other. rw (outs-Not a) refl;
  and = λ as_ all other. absurd (other as_ refl);
  or = λ as_ all other. rw (outs-Or as_) refl;
  imp = λ a b ih jh other. rw (outs-Imp a b) refl;
  iff = λ a b ih jh other. rw (outs-Iff a b) refl;
  all = λ s a ih other. rw (outs-All s a) refl;
  ex = λ s a ih other. rw (outs-Ex s a) refl;
})

not_each : (ways : List Way) (a : Form) → ((as_ : List Form) → a ≡ Or as_ → ⊥) → each_in ways (out-Form a) ≡ None
not_each ways = form_induction _ (record {
  atom = λ p ts other. rw (outs-Atom p ts) refl;
  eq = λ l r other. rw (outs-Eq l r) refl;
  not = λ a ih other. rw (outs-Not a) refl;
  and = λ as_ all other. rw (outs-And as_) refl;
  or = λ as_ all other. absurd (other as_ refl);
  imp = λ a b ih jh other. rw (outs-Imp a b) refl;
  iff = λ a b ih jh other. rw (outs-Iff a b) refl;
  all = λ s a ih other. rw (outs-All s a) refl;
  ex = λ s a ih other. rw (outs-Ex s a) refl;
})

not_under : (way : Way) (a : Form) → ((s : ℕ) (b : Form) → a ≡ All s b → ⊥) → under_in way (out-Form a) ≡ None
not_under way = form_induction _ (record {
  atom = λ p ts other. rw (outs-Atom p ts) refl;
  eq = λ l r other. rw (outs-Eq l r) refl;
  not = λ a ih other. rw (outs-Not a) refl;
  and = λ as_ all other. rw (outs-And as_) refl;
  or = λ as_ all other. rw (outs-Or as_) refl;
  imp = λ a b ih jh other. rw (outs-Imp a b) refl;
  iff = λ a b ih jh other. rw (outs-Iff a b) refl;
  all = λ s a ih other. absurd (other s a refl);
  ex = λ s a ih other. rw (outs-Ex s a) refl;
})

pub none_picked : (k : ℕ) (p : Path) (a : Form) → ((as_ : List Form) → a ≡ And as_ → ⊥) → reached (Pick k p) a ≡ None
none_picked k p a other = reached_pick k p a ∙ not_picked k (reached p) a other

pub none_each : (ps : List Path) (a : Form) → ((as_ : List Form) → a ≡ Or as_ → ⊥) → reached (Each ps) a ≡ None
none_each ps a other = reached_each ps a ∙ not_each (map reached ps) a other

pub none_under : (p : Path) (a : Form) → ((s : ℕ) (b : Form) → a ≡ All s b → ⊥) → reached (Under p) a ≡ None
none_under p a other = reached_under p a ∙ not_under (reached p) a other

-- The formula of the literal that a formula is.
abbrev AtomBack : Form → Type 0
AtomBack a = (x : AtomOf) → (view_of a).atom ≡ Some x → form_of_atom x ≡ a

and_atom_back : (as_ : List Form) (x : AtomOf) → (view_of_and (map view_of as_)).atom ≡ Some x → form_of_atom x ≡ And as_
and_atom_back [] x e = let same : True ≡ x = cc in rw (sym same) refl
and_atom_back (a ∷ as_) x e = cc

or_atom_back : (as_ : List Form) (x : AtomOf) → (view_of_or (map view_of as_)).atom ≡ Some x → form_of_atom x ≡ Or as_
or_atom_back [] x e = let same : False ≡ x = cc in rw (sym same) refl
or_atom_back (a ∷ as_) x e = cc

atom_back : (a : Form) → AtomBack a
atom_back = form_induction _ (record {
  atom = λ p ts x e. let e' : Some (Pred p ts) ≡ Some x = ap (λ (v : View). v.atom) (sym (view_of-Atom p ts)) ∙ e in let same : Pred p ts ≡ x = cc in rw (sym same) refl;
  eq = λ l r x e. let e' : Some (Equation l r) ≡ Some x = ap (λ (v : View). v.atom) (sym (view_of-Eq l r)) ∙ e in let same : Equation l r ≡ x = cc in rw (sym same) refl;
  not = λ a ih x e. let e' : None ≡ Some x = ap (λ (v : View). v.atom) (sym (view_of-Not a)) ∙ e in cc;
  and = λ as_ all x e. and_atom_back as_ x (ap (λ (v : View). v.atom) (sym (view_of-And as_)) ∙ e);
  or = λ as_ all x e. or_atom_back as_ x (ap (λ (v : View). v.atom) (sym (view_of-Or as_)) ∙ e);
  imp = λ a b ih jh x e. let e' : None ≡ Some x = ap (λ (v : View). v.atom) (sym (view_of-Imp a b)) ∙ e in cc;
  iff = λ a b ih jh x e. let e' : None ≡ Some x = ap (λ (v : View). v.atom) (sym (view_of-Iff a b)) ∙ e in cc;
  all = λ s a ih x e. let e' : None ≡ Some x = ap (λ (v : View). v.atom) (sym (view_of-All s a)) ∙ e in cc;
  ex = λ s a ih x e. let e' : None ≡ Some x = ap (λ (v : View). v.atom) (sym (view_of-Ex s a)) ∙ e in cc;
})

denied_back : (a : Form) (o : Option AtomOf) (l : Lit) → ((x : AtomOf) → o ≡ Some x → form_of_atom x ≡ a) → option_map denied o ≡ Some l → form_of_lit l ≡ Not a
denied_back a None l back e = cc
denied_back a (Some x) l back e = let same : denied x ≡ l = cc in rw (sym same) (ap Not (back x refl))

and_lit_back : (as_ : List Form) (l : Lit) → (view_of_and (map view_of as_)).lit ≡ Some l → form_of_lit l ≡ And as_
and_lit_back [] l e = let same : stated True ≡ l = cc in rw (sym same) refl
and_lit_back (a ∷ as_) l e = cc

or_lit_back : (as_ : List Form) (l : Lit) → (view_of_or (map view_of as_)).lit ≡ Some l → form_of_lit l ≡ Or as_
or_lit_back [] l e = let same : stated False ≡ l = cc in rw (sym same) refl
or_lit_back (a ∷ as_) l e = cc

pub lit_back : (a : Form) (l : Lit) → (view_of a).lit ≡ Some l → form_of_lit l ≡ a
lit_back = form_induction _ (record {
  atom = λ p ts l e. let e' : Some (stated (Pred p ts)) ≡ Some l = ap (λ (v : View). v.lit) (sym (view_of-Atom p ts)) ∙ e in let same : stated (Pred p ts) ≡ l = cc in rw (sym same) refl;
  eq = λ s t l e. let e' : Some (stated (Equation s t)) ≡ Some l = ap (λ (v : View). v.lit) (sym (view_of-Eq s t)) ∙ e in let same : stated (Equation s t) ≡ l = cc in rw (sym same) refl;
  not = λ a ih l e. denied_back a (view_of a).atom l (atom_back a) (ap (λ (v : View). v.lit) (sym (view_of-Not a)) ∙ e);
  and = λ as_ all l e. and_lit_back as_ l (ap (λ (v : View). v.lit) (sym (view_of-And as_)) ∙ e);
  or = λ as_ all l e. or_lit_back as_ l (ap (λ (v : View). v.lit) (sym (view_of-Or as_)) ∙ e);
  imp = λ a b ih jh l e. let e' : None ≡ Some l = ap (λ (v : View). v.lit) (sym (view_of-Imp a b)) ∙ e in cc;
  iff = λ a b ih jh l e. let e' : None ≡ Some l = ap (λ (v : View). v.lit) (sym (view_of-Iff a b)) ∙ e in cc;
  all = λ s a ih l e. let e' : None ≡ Some l = ap (λ (v : View). v.lit) (sym (view_of-All s a)) ∙ e in cc;
  ex = λ s a ih l e. let e' : None ≡ Some l = ap (λ (v : View). v.lit) (sym (view_of-Ex s a)) ∙ e in cc;
})

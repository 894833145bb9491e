-- Lemmas on what specs/code/Loose defines.
use Rattle.std.specs.Prelude.{ℕ, ◌≡◌, ◌+◌, Bool, true, false, List, [], ◌∷◌, length, map, refl}
use Rattle.std.specs.List.{AllByRecursion}
use Rattle.std.proofs.Common.{ap, sym, ◌∙◌}
use Rattle.fof_terms.proofs.Trees.{fold-Atom, fold-Eq, fold-Not, fold-And, fold-Or, fold-Imp, fold-Iff, fold-All, fold-Ex}
use Rattle.fof_terms.proofs.Induction.{form_induction}
use Rattle.fof_terms.specs.Lift.{lifted}
use Rattle.fof_terms.specs.declared.term.Term.{Term}
use Rattle.fof_terms.specs.declared.form.Form.{Form, Atom, Eq, Not, And, Or, Imp, Iff, All, Ex}
use Rattle.clause_form.specs.Norm.{node, join, norm_of}
use Rattle.clause_form.proofs.NormFacts.{norm_of-And, norm_of-Or}
use Rattle.flat_form.specs.Flat.{Pulled, kept, whole_of, sorts_of, bodies_of, pulled}
use Rattle.flat_form.proofs.Own.{IsOwn, own_node, own_quantifier}
use Rattle.flat_form.proofs.OwnNorms.{own_fixed}
use Rattle.flat_form.proofs.PulledFacts.{pulled-Atom, pulled-Eq, kept-Not as pulled-Not, kept-Imp as pulled-Imp, kept-Iff as pulled-Iff, kept-Ex as pulled-Ex, node_sorts as pulled_node_sorts, node_body as pulled_node_body, all_sorts as pulled_all_sorts, all_body as pulled_all_body}
use Rattle.flat_proofs.specs.code.Loose.{loose_step, loose}
use Rattle.flat_proofs.proofs.NormWalk.{norm_lifted}
use Rattle.fof_terms.specs.declared.form.Form.TheOpen as form

-- The equations of this word.
pub loose-Atom : (p : ℕ) (ts : List Term) → loose (Atom p ts) ≡ kept (Atom p ts)
unfolding loose
loose-Atom p ts = fold-Atom Pulled loose_step p ts

pub loose-Eq : (l r : Term) → loose (Eq l r) ≡ kept (Eq l r)
unfolding loose
loose-Eq l r = fold-Eq Pulled loose_step l r

loose-Not : (a : Form) → loose (Not a) ≡ loose_step (form.Not (loose a))
unfolding loose
loose-Not a = fold-Not Pulled loose_step a

loose-And : (as_ : List Form) → loose (And as_) ≡ loose_step (form.And (map loose as_))
unfolding loose
loose-And as_ = fold-And Pulled loose_step as_

loose-Or : (as_ : List Form) → loose (Or as_) ≡ loose_step (form.Or (map loose as_))
unfolding loose
loose-Or as_ = fold-Or Pulled loose_step as_

loose-Imp : (a b : Form) → loose (Imp a b) ≡ loose_step (form.Imp (loose a) (loose b))
unfolding loose
loose-Imp a b = fold-Imp Pulled loose_step a b

loose-Iff : (a b : Form) → loose (Iff a b) ≡ loose_step (form.Iff (loose a) (loose b))
unfolding loose
loose-Iff a b = fold-Iff Pulled loose_step a b

loose-All : (s : ℕ) (a : Form) → loose (All s a) ≡ loose_step (form.All s (loose a))
unfolding loose
loose-All s a = fold-All Pulled loose_step s a

loose-Ex : (s : ℕ) (a : Form) → loose (Ex s a) ≡ loose_step (form.Ex s (loose a))
unfolding loose
loose-Ex s a = fold-Ex Pulled loose_step s a

wholes : (as_ : List Form) → AllByRecursion (λ a. (loose a).whole ≡ a) as_ → map whole_of (map loose as_) ≡ as_
wholes [] all = refl
wholes (a ∷ as_) all = rw (all.0, wholes as_ all.1) refl

loose_whole : (a : Form) → (loose a).whole ≡ a
loose_whole = form_induction _ (record {
  atom = λ p ts. rw (loose-Atom p ts) refl;
  eq = λ l r. rw (loose-Eq l r) refl;
  not = λ a ih. rw (loose-Not a) (ap Not ih);
  and = λ as_ all. rw (loose-And as_) (ap And (wholes as_ all));
  or = λ as_ all. rw (loose-Or as_) (ap Or (wholes as_ all));
  imp = λ a b ih jh. rw (loose-Imp a b, ih, jh) refl;
  iff = λ a b ih jh. rw (loose-Iff a b, ih, jh) refl;
  all = λ s a ih. rw (loose-All s a) (ap (All s) ih);
  ex = λ s a ih. rw (loose-Ex s a) (ap (Ex s) ih);
})

pub kept-Not : (a : Form) → loose (Not a) ≡ kept (Not a)
kept-Not a = loose-Not a ∙ ap (λ b. kept (Not b)) (loose_whole a)

pub kept-Imp : (a b : Form) → loose (Imp a b) ≡ kept (Imp a b)
kept-Imp a b = rw (loose-Imp a b, loose_whole a, loose_whole b) refl

pub kept-Iff : (a b : Form) → loose (Iff a b) ≡ kept (Iff a b)
kept-Iff a b = rw (loose-Iff a b, loose_whole a, loose_whole b) refl

pub kept-Ex : (s : ℕ) (a : Form) → loose (Ex s a) ≡ kept (Ex s a)
kept-Ex s a = loose-Ex s a ∙ ap (λ b. kept (Ex s b)) (loose_whole a)

pub node_sorts : (g : Bool) (as_ : List Form) → (loose (node g as_)).sorts ≡ sorts_of (map loose as_)
node_sorts true as_ = ap (λ (p : Pulled). p.sorts) (loose-And as_)
node_sorts false as_ = ap (λ (p : Pulled). p.sorts) (loose-Or as_)

pub node_body : (g : Bool) (as_ : List Form) → (loose (node g as_)).body ≡ node g (bodies_of 0 (map loose as_))
node_body true as_ = ap (λ (p : Pulled). p.body) (loose-And as_)
node_body false as_ = ap (λ (p : Pulled). p.body) (loose-Or as_)

abbrev parts : Form → List ℕ → Form → Pulled
parts w ss b = record { whole = w; sorts = ss; body = b }

parts_kept : (w : Form) (ss : List ℕ) (b a : Form) → w ≡ a → ss ≡ [] → b ≡ a → parts w ss b ≡ kept a
parts_kept w ss b a ew es eb = ap (λ (c : Form). parts c ss b) ew ∙ (ap (λ (xs : List ℕ). parts a xs b) es ∙ ap (λ (c : Form). parts a [] c) eb)

-- a node out of which nothing is pulled
pub kept_node : (g : Bool) (as_ : List Form) → (loose (node g as_)).sorts ≡ [] → (loose (node g as_)).body ≡ node g as_ → loose (node g as_) ≡ kept (node g as_)
kept_node true as_ es eb =
    let e = loose-And as_ in
    let ps = map loose as_ in
    e
    ∙ parts_kept (And (map whole_of ps)) (sorts_of ps) (And (bodies_of 0 ps)) (And as_) (sym (ap (λ (p : Pulled). p.whole) e) ∙ loose_whole (And as_)) (sym (ap (λ (p : Pulled). p.sorts) e) ∙ es) (sym (ap (λ (p : Pulled). p.body) e) ∙ eb)
kept_node false as_ es eb =
    let e = loose-Or as_ in
    let ps = map loose as_ in
    e ∙ parts_kept (Or (map whole_of ps)) (sorts_of ps) (Or (bodies_of 0 ps)) (Or as_) (sym (ap (λ (p : Pulled). p.whole) e) ∙ loose_whole (Or as_)) (sym (ap (λ (p : Pulled). p.sorts) e) ∙ es) (sym (ap (λ (p : Pulled). p.body) e) ∙ eb)

pub all_sorts : (s : ℕ) (a : Form) → (loose (All s a)).sorts ≡ s ∷ (loose a).sorts
all_sorts s a = ap (λ (p : Pulled). p.sorts) (loose-All s a)

pub all_body : (s : ℕ) (a : Form) → (loose (All s a)).body ≡ (loose a).body
all_body s a = ap (λ (p : Pulled). p.body) (loose-All s a)

-- The same sorts are pulled out.
abbrev sorts_in : Pulled → List ℕ
sorts_in p = p.sorts

each_sorts : (as_ : List Form) → AllByRecursion (λ a. (loose a).sorts ≡ (pulled a).sorts) as_ → sorts_of (map loose as_) ≡ sorts_of (map pulled as_)
each_sorts [] all = refl
each_sorts (a ∷ as_) all = rw (all.0, each_sorts as_ all.1) refl

kept_sorts : (a : Form) → loose a ≡ kept a → pulled a ≡ kept a → (loose a).sorts ≡ (pulled a).sorts
kept_sorts a one two = ap sorts_in (one ∙ sym two)

pub loose_sorts : (a : Form) → (loose a).sorts ≡ (pulled a).sorts
loose_sorts = form_induction _ (record {
  atom = λ p ts. kept_sorts _ (loose-Atom p ts) (pulled-Atom p ts);
  eq = λ l r. kept_sorts _ (loose-Eq l r) (pulled-Eq l r);
  not = λ a ih. kept_sorts _ (kept-Not a) (pulled-Not a);
  and = λ as_ all. node_sorts true as_ ∙ (each_sorts as_ all ∙ sym (pulled_node_sorts true as_));
  or = λ as_ all. node_sorts false as_ ∙ (each_sorts as_ all ∙ sym (pulled_node_sorts false as_));
  imp = λ a b ih jh. kept_sorts _ (kept-Imp a b) (pulled-Imp a b);
  iff = λ a b ih jh. kept_sorts _ (kept-Iff a b) (pulled-Iff a b);
  all = λ s a ih. all_sorts s a ∙ (ap (λ xs. s ∷ xs) ih ∙ sym (pulled_all_sorts s a));
  ex = λ s a ih. kept_sorts _ (kept-Ex s a) (pulled-Ex s a);
})

pub list_sorts : (as_ : List Form) → sorts_of (map loose as_) ≡ sorts_of (map pulled as_)
list_sorts [] = refl
list_sorts (a ∷ as_) = rw (loose_sorts a, list_sorts as_) refl

-- The normal form of the body is the body whose nodes are joined.
abbrev Joins : Form → Type 0
Joins a = IsOwn a → norm_of true (loose a).body ≡ (pulled a).body

each_joins : (f : ℕ) (as_ : List Form) → AllByRecursion Joins as_ → AllByRecursion IsOwn as_ → map (norm_of true) (bodies_of f (map loose as_)) ≡ bodies_of f (map pulled as_)
each_joins f [] all h = refl
each_joins f (a ∷ as_) all h =
    let e = length (sorts_of (map loose as_)) in
    let n = length (loose a).sorts in
    let b = (loose a).body in
    let head : norm_of true (lifted e 0 (lifted f n b)) ≡ lifted e 0 (lifted f n (pulled a).body) =
    norm_lifted e 0 (lifted f n b) true ∙ (ap (lifted e 0) (norm_lifted f n b true) ∙ ap (λ c. lifted e 0 (lifted f n c)) (all.0 h.0)) in
    let rest = each_joins (f + n) as_ all.1 h.1 in
    rw (head, rest, list_sorts as_, loose_sorts a) refl

norm_node : (g : Bool) (as_ : List Form) → norm_of true (node g as_) ≡ join g (map (norm_of true) as_)
norm_node true as_ = norm_of-And true as_
norm_node false as_ = norm_of-Or true as_

node_joins : (g : Bool) (as_ : List Form) → AllByRecursion Joins as_ → Joins (node g as_)
node_joins g as_ all h =
    ap (norm_of true) (node_body g as_)
    ∙ (norm_node g (bodies_of 0 (map loose as_)) ∙ (ap (join g) (each_joins 0 as_ all (own_node g as_ h).own) ∙ sym (pulled_node_body g as_)))

kept_joins : (a : Form) → loose a ≡ kept a → pulled a ≡ kept a → Joins a
kept_joins a one two h = ap (λ (p : Pulled). norm_of true p.body) one ∙ (own_fixed a h ∙ ap (λ (p : Pulled). p.body) (sym two))

pub loose_norm : (a : Form) → Joins a
loose_norm = form_induction _ (record {
  atom = λ p ts. kept_joins _ (loose-Atom p ts) (pulled-Atom p ts);
  eq = λ l r. kept_joins _ (loose-Eq l r) (pulled-Eq l r);
  not = λ a ih. kept_joins _ (kept-Not a) (pulled-Not a);
  and = node_joins true;
  or = node_joins false;
  imp = λ a b ih jh. kept_joins _ (kept-Imp a b) (pulled-Imp a b);
  iff = λ a b ih jh. kept_joins _ (kept-Iff a b) (pulled-Iff a b);
  all = λ s a ih h. ap (norm_of true) (all_body s a) ∙ (ih (own_quantifier true s a h).0 ∙ sym (pulled_all_body s a));
  ex = λ s a ih. kept_joins _ (kept-Ex s a) (pulled-Ex s a);
})

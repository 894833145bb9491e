-- What is pulled out of a formula that is its own normal form: its body is one too, and nothing more is pulled out of that.
use Rattle.std.specs.Prelude.{ℕ, ◌≡◌, ◌+◌, Bool, true, false, List, [], ◌∷◌, ◌++◌, length, map, refl}
use Rattle.std.specs.List.{AllByRecursion}
use Rattle.std.proofs.Common.{ap, sym, subst, ◌∙◌, arith}
use Rattle.fof_terms.specs.declared.term.Term.{Term}
use Rattle.fof_terms.specs.declared.form.Form.{Form, Atom, Eq, Not, Imp, Iff, Ex}
use Rattle.fof_terms.specs.Lift.{lifted}
use Rattle.fof_terms.proofs.Induction.{form_induction}
use Rattle.fof_terms.proofs.Walks.{FormWalk}
use Rattle.clause_form.specs.Norm.{node, join}
use Rattle.clause_form.proofs.Joined.{Memberwise, join_keeps}
use Rattle.flat_form.specs.Flat.{Pulled, kept, sorts_of, bodies_of, pulled}
use Rattle.flat_form.specs.Renumbered.{renumbered}
use Rattle.flat_form.proofs.PulledFacts.{pulled-Atom, pulled-Eq, kept-Not, kept-Imp, kept-Iff, kept-Ex, node_sorts, node_body, all_sorts, all_body}
use Rattle.flat_form.proofs.Renumbering.{renumbering, itself, lift_number, lift_above, lift_is, node_walk}
use Rattle.flat_form.proofs.Own.{IsOwn, own_node, own_quantifier, join_own, join_own_is}
use Rattle.flat_form.proofs.OwnNorms.{own_lifted}

abbrev sorts_in : Form → List ℕ
sorts_in a = (pulled a).sorts

abbrev body_in : Form → Form
body_in a = (pulled a).body

-- the body is its own normal form
bodies_own : (f : ℕ) (as_ : List Form) → AllByRecursion (λ a. IsOwn a → IsOwn (pulled a).body) as_ → AllByRecursion IsOwn as_ → AllByRecursion IsOwn (bodies_of f (map pulled as_))
bodies_own f [] all h = tt
bodies_own f (a ∷ as_) all h = (
  own_lifted (length (sorts_of (map pulled as_))) 0 (lifted f (length (pulled a).sorts) (pulled a).body) (own_lifted f (length (pulled a).sorts) (pulled a).body (all.0 h.0)),
  bodies_own (f + length (pulled a).sorts) as_ all.1 h.1,
)

own_joined : (g : Bool) (as_ : List Form) → AllByRecursion (λ a. IsOwn a → IsOwn (pulled a).body) as_ → IsOwn (node g as_) → IsOwn (pulled (node g as_)).body
own_joined g as_ all h = subst IsOwn (sym (node_body g as_)) (join_own g (bodies_of 0 (map pulled as_)) (bodies_own 0 as_ all (own_node g as_ h).own))

kept_own : (a : Form) → pulled a ≡ kept a → IsOwn a → IsOwn (pulled a).body
kept_own a e h = subst IsOwn (sym (ap (λ (p : Pulled). p.body) e)) h

pub pulled_own : (a : Form) → IsOwn a → IsOwn (pulled a).body
pulled_own = form_induction _ (record {
  atom = λ p ts h. kept_own (Atom p ts) (pulled-Atom p ts) h;
  eq = λ l r h. kept_own (Eq l r) (pulled-Eq l r) h;
  not = λ a ih h. kept_own (Not a) (kept-Not a) h;
  and = own_joined true;
  or = own_joined false;
  imp = λ a b ih jh h. kept_own (Imp a b) (kept-Imp a b) h;
  iff = λ a b ih jh h. kept_own (Iff a b) (kept-Iff a b) h;
  all = λ s a ih h. subst IsOwn (sym (all_body s a)) (ih (own_quantifier true s a h).0);
  ex = λ s a ih h. kept_own (Ex s a) (kept-Ex s a) h;
})

-- A change of variables alone changes nothing of the sorts.
module _ (f : ℕ → Term → Term) (w : ℕ → Form → Form) (walk : FormWalk f w) where
  same_list : (d : ℕ) (as_ : List Form) → AllByRecursion (λ a. (d : ℕ) → (pulled (w d a)).sorts ≡ (pulled a).sorts) as_ → sorts_of (map pulled (map (w d) as_)) ≡ sorts_of (map pulled as_)
  same_list d [] all = refl
  same_list d (a ∷ as_) all = rw (all.0 d, same_list d as_ all.1) refl

  node_case : (g : Bool) (as_ : List Form) → AllByRecursion (λ a. (d : ℕ) → (pulled (w d a)).sorts ≡ (pulled a).sorts) as_ → (d : ℕ) → (pulled (w d (node g as_))).sorts ≡ (pulled (node g as_)).sorts
  node_case g as_ all d = ap sorts_in (node_walk f w walk d g as_) ∙ (node_sorts g (map (w d) as_) ∙ (same_list d as_ all ∙ sym (node_sorts g as_)))

  none : (a : Form) → pulled a ≡ kept a → sorts_in a ≡ []
  none a e = ap (λ (p : Pulled). p.sorts) e

  pub sorts_walk : (a : Form) (d : ℕ) → (pulled (w d a)).sorts ≡ (pulled a).sorts
  sorts_walk = form_induction _ (record {
    atom = λ p ts d. ap sorts_in (walk.atom d p ts) ∙ (none _ (pulled-Atom p _) ∙ sym (none _ (pulled-Atom p ts)));
    eq = λ l r d. ap sorts_in (walk.eq d l r) ∙ (none _ (pulled-Eq _ _) ∙ sym (none _ (pulled-Eq l r)));
    not = λ a ih d. ap sorts_in (walk.not d a) ∙ (none _ (kept-Not (w d a)) ∙ sym (none _ (kept-Not a)));
    and = node_case true;
    or = node_case false;
    imp = λ a b ih jh d. ap sorts_in (walk.imp d a b) ∙ (none _ (kept-Imp (w d a) (w d b)) ∙ sym (none _ (kept-Imp a b)));
    iff = λ a b ih jh d. ap sorts_in (walk.iff d a b) ∙ (none _ (kept-Iff (w d a) (w d b)) ∙ sym (none _ (kept-Iff a b)));
    all = λ s a ih d. ap sorts_in (walk.all d s a) ∙ (all_sorts s (w (d + 1) a) ∙ (ap (λ xs. s ∷ xs) (ih (d + 1)) ∙ sym (all_sorts s a)));
    ex = λ s a ih d. ap sorts_in (walk.ex d s a) ∙ (none _ (kept-Ex s (w (d + 1) a)) ∙ sym (none _ (kept-Ex s a)));
  })

pub sorts_renumbered : (new : ℕ → ℕ) (d : ℕ) (a : Form) → (pulled (renumbered new d a)).sorts ≡ (pulled a).sorts
sorts_renumbered new d a = sorts_walk _ _ (renumbering new) a d

pub sorts_lifted : (by n : ℕ) (a : Form) → (pulled (lifted by n a)).sorts ≡ (pulled a).sorts
sorts_lifted by n a = ap sorts_in (lift_is by n a) ∙ sorts_renumbered (lift_number by n) 0 a

-- Nothing is pulled out of the body.
abbrev pub HasNone : Form → Type 0
HasNone a = (pulled a).sorts ≡ []

no_sorts : (as_ : List Form) → AllByRecursion HasNone as_ → sorts_of (map pulled as_) ≡ []
no_sorts [] h = refl
no_sorts (a ∷ as_) h = rw (h.0, no_sorts as_ h.1) refl

front_none : (xs ys : List ℕ) → xs ++ ys ≡ [] → xs ≡ []
front_none [] ys e = refl
front_none (x ∷ xs) ys e = absurd cc

back_none : (xs ys : List ℕ) → xs ++ ys ≡ [] → ys ≡ []
back_none [] ys e = e
back_none (x ∷ xs) ys e = absurd cc

each_none : (as_ : List Form) → sorts_of (map pulled as_) ≡ [] → AllByRecursion HasNone as_
each_none [] e = tt
each_none (a ∷ as_) e = (front_none (pulled a).sorts (sorts_of (map pulled as_)) e, each_none as_ (back_none (pulled a).sorts (sorts_of (map pulled as_)) e))

none_nodes : Memberwise HasNone
none_nodes = record { make = λ g as_ h. node_sorts g as_ ∙ no_sorts as_ h; take = λ g as_ h. each_none as_ (sym (node_sorts g as_) ∙ h) }

bodies_none : (f : ℕ) (as_ : List Form) → AllByRecursion (λ a. HasNone (pulled a).body) as_ → AllByRecursion HasNone (bodies_of f (map pulled as_))
bodies_none f [] all = tt
bodies_none f (a ∷ as_) all = (
  sorts_lifted (length (sorts_of (map pulled as_))) 0 (lifted f (length (pulled a).sorts) (pulled a).body) ∙ (sorts_lifted f (length (pulled a).sorts) (pulled a).body ∙ all.0),
  bodies_none (f + length (pulled a).sorts) as_ all.1,
)

none_joined : (g : Bool) (as_ : List Form) → AllByRecursion (λ a. HasNone (pulled a).body) as_ → HasNone (pulled (node g as_)).body
none_joined g as_ all = subst HasNone (sym (node_body g as_)) (join_keeps HasNone none_nodes g (bodies_of 0 (map pulled as_)) (bodies_none 0 as_ all))

kept_none : (a : Form) → pulled a ≡ kept a → HasNone (pulled a).body
kept_none a e = subst HasNone (sym (ap (λ (p : Pulled). p.body) e)) (ap (λ (p : Pulled). p.sorts) e)

pub body_none : (a : Form) → HasNone (pulled a).body
body_none = form_induction _ (record {
  atom = λ p ts. kept_none (Atom p ts) (pulled-Atom p ts);
  eq = λ l r. kept_none (Eq l r) (pulled-Eq l r);
  not = λ a ih. kept_none (Not a) (kept-Not a);
  and = none_joined true;
  or = none_joined false;
  imp = λ a b ih jh. kept_none (Imp a b) (kept-Imp a b);
  iff = λ a b ih jh. kept_none (Iff a b) (kept-Iff a b);
  all = λ s a ih. subst HasNone (sym (all_body s a)) ih;
  ex = λ s a ih. kept_none (Ex s a) (kept-Ex s a);
})

-- Where nothing is pulled out of such a formula, its body is itself.
lift_none : (a : Form) → lifted 0 0 (lifted 0 0 a) ≡ a
lift_none a = ap (lifted 0 0) (stays_so a) ∙ stays_so a where
  stays_so : (a : Form) → lifted 0 0 a ≡ a
  stays_so a = lift_is 0 0 a ∙ itself (lift_number 0 0) (λ k. lift_above 0 0 k (omega arith) ∙ (omega arith)) a 0

bodies_same : (as_ : List Form) → AllByRecursion (λ a. IsOwn a → HasNone a → (pulled a).body ≡ a) as_ → AllByRecursion IsOwn as_ → AllByRecursion HasNone as_ → bodies_of 0 (map pulled as_) ≡ as_
bodies_same [] all h k = refl
bodies_same (a ∷ as_) all h k = rw (all.0 h.0 k.0, k.0, no_sorts as_ k.1, lift_none a, bodies_same as_ all.1 h.1 k.1) refl

same_joined : (g : Bool) (as_ : List Form) → AllByRecursion (λ a. IsOwn a → HasNone a → (pulled a).body ≡ a) as_ → IsOwn (node g as_) → HasNone (node g as_) → (pulled (node g as_)).body ≡ node g as_
same_joined g as_ all h k =
    let m = own_node g as_ h in
    node_body g as_ ∙ (ap (join g) (bodies_same as_ all m.own (each_none as_ (sym (node_sorts g as_) ∙ k))) ∙ join_own_is g as_ m)

body_of_kept : (a : Form) → pulled a ≡ kept a → (pulled a).body ≡ a
body_of_kept a e = ap (λ (p : Pulled). p.body) e

pub body_same : (a : Form) → IsOwn a → HasNone a → (pulled a).body ≡ a
body_same = form_induction _ (record {
  atom = λ p ts h k. body_of_kept (Atom p ts) (pulled-Atom p ts);
  eq = λ l r h k. body_of_kept (Eq l r) (pulled-Eq l r);
  not = λ a ih h k. body_of_kept (Not a) (kept-Not a);
  and = same_joined true;
  or = same_joined false;
  imp = λ a b ih jh h k. body_of_kept (Imp a b) (kept-Imp a b);
  iff = λ a b ih jh h k. body_of_kept (Iff a b) (kept-Iff a b);
  all = λ s a ih h k. absurd (let never : s ∷ (pulled a).sorts ≡ [] = sym (all_sorts s a) ∙ k in cc);
  ex = λ s a ih h k. body_of_kept (Ex s a) (kept-Ex s a);
})

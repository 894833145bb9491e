-- Normal forms are their own normal forms, and stay so where variables change.
use Rattle.std.specs.Prelude.{ℕ, ◌≡◌, ◌+◌, ◌-◌, ◌<◌, ◌==◌, Bool, true, false, not, List, [], ◌∷◌, map, refl}
use Rattle.std.specs.List.{AllByRecursion, list_any}
use Rattle.std.proofs.Common.{ap, sym, subst, ◌∙◌, arith, ◌⊎◌, inl, inr}
use Rattle.std.proofs.lemmas.List.{length-map}
use Rattle.std.proofs.lemmas.Bool.{ne_eqb}
use Rattle.fof_terms.specs.declared.term.Term.{Term, Var}
use Rattle.fof_terms.specs.declared.form.Form.{Form, Atom, Eq, Not}
use Rattle.fof_terms.proofs.Induction.{term_induction, form_induction}
use Rattle.fof_terms.proofs.LiftingLaws.{below_or_above, moves, here, smaller, greater}
use Rattle.fof_terms.proofs.Walks.{TermWalk, FormWalk, placing, placing_term}
use Rattle.fof_terms.specs.Lift.{lifted}
use Rattle.fof_terms.specs.Instance.{instance_term}
use Rattle.fof_terms.specs.Variables.{has_in_term, has_variable}
use Rattle.fof_terms.proofs.VariablesFacts.{has_in_term-Var, has_in_term-App, has_variable-Atom, has_variable-Eq, has_variable-Not, has_variable-And, has_variable-Or, has_variable-Imp, has_variable-Iff, has_variable-All, has_variable-Ex}
use Rattle.clause_form.specs.Norm.{signed, node, join, quantified, norm_of}
use Rattle.clause_form.proofs.NormFacts.{quantified-kept, quantified-dropped, norm_of-Atom, norm_of-Eq, norm_of-Not, norm_of-And, norm_of-Or, norm_of-Imp, norm_of-Iff, norm_of-All, norm_of-Ex}
use Rattle.flat_form.specs.Renumbered.{renumbered_term, renumbered}
use Rattle.flat_form.proofs.Renumbering.{renumbering, renumbering_term, bound, free, lift_number, lift_is, node_walk}
use Rattle.flat_form.proofs.Own.{own, own_in, IsOwn, Stands, own-Atom, own-Eq, own-Not, own-And, own-Or, own-Imp, own-Iff, own-All, own-Ex, own_node, node_own, own_quantifier, quantifier_own, own_imp, own_iff, join_own, join_own_is}
use Rattle.flat_form.proofs.Standing.{stands_walk}

-- An atom or equation, denied, is its own normal form.
atomic_norm : (a : Form) → (own a).atomic ≡ true → norm_of false a ≡ Not a
atomic_norm = form_induction _ (record {
  atom = λ p ts e. norm_of-Atom false p ts;
  eq = λ l r e. norm_of-Eq false l r;
  not = λ a ih e. absurd (let never : false ≡ true = rw (own-Not a) at e in cc);
  and = λ as_ ih e. absurd (let never : false ≡ true = rw (own-And as_) at e in cc);
  or = λ as_ ih e. absurd (let never : false ≡ true = rw (own-Or as_) at e in cc);
  imp = λ a b ih jh e. absurd (let never : false ≡ true = rw (own-Imp a b) at e in cc);
  iff = λ a b ih jh e. absurd (let never : false ≡ true = rw (own-Iff a b) at e in cc);
  all = λ s a ih e. absurd (let never : false ≡ true = rw (own-All s a) at e in cc);
  ex = λ s a ih e. absurd (let never : false ≡ true = rw (own-Ex s a) at e in cc);
})

fixed_all : (as_ : List Form) → AllByRecursion (λ a. IsOwn a → norm_of true a ≡ a) as_ → AllByRecursion IsOwn as_ → map (norm_of true) as_ ≡ as_
fixed_all [] all h = refl
fixed_all (a ∷ as_) all h = rw (all.0 h.0, fixed_all as_ all.1 h.1) refl

pub own_fixed : (a : Form) → IsOwn a → norm_of true a ≡ a
own_fixed = form_induction _ (record {
  atom = λ p ts h. norm_of-Atom true p ts;
  eq = λ l r h. norm_of-Eq true l r;
  not = λ a ih h. norm_of-Not true a ∙ atomic_norm a (ap own_in (sym (own-Not a)) ∙ h);
  and = λ as_ all h.
      let m = own_node true as_ h in
      norm_of-And true as_ ∙ (ap (join true) (fixed_all as_ all m.own) ∙ join_own_is true as_ m);
  or = λ as_ all h.
      let m = own_node false as_ h in
      norm_of-Or true as_ ∙ (ap (join false) (fixed_all as_ all m.own) ∙ join_own_is false as_ m);
  imp = λ a b ih jh h. absurd (own_imp a b h);
  iff = λ a b ih jh h. absurd (own_iff a b h);
  all = λ s a ih h.
      let parts = own_quantifier true s a h in
      norm_of-All true s a ∙ (ap (quantified true s) (ih parts.0) ∙ quantified-kept true s a parts.1);
  ex = λ s a ih h.
      let parts = own_quantifier false s a h in
      norm_of-Ex true s a ∙ (ap (quantified false s) (ih parts.0) ∙ quantified-kept false s a parts.1);
})

-- Where variables change, those that are bound nearer stay.
abbrev pub KeepsNear : (ℕ → Term → Term) → Type 0
KeepsNear f = (d n : ℕ) → n < d → (t : Term) → has_in_term n (f d t) ≡ has_in_term n t

differ : (k n : ℕ) → (k ≡ n → ⊥) → (k == n) ≡ false
differ k n h = ne_eqb k n h

same_any : {X : Type 0} (p q : X → Bool) (f : X → X) (xs : List X) → AllByRecursion (λ x. p (f x) ≡ q x) xs → list_any p (map f xs) ≡ list_any q xs
same_any p q f [] e = refl
same_any p q f (x ∷ xs) e = rw (e.0, same_any p q f xs e.1) refl

each : {X : Type 0} (P : X → Type 0) (xs : List X) → ((x : X) → P x) → AllByRecursion P xs
each P [] h = tt
each P (x ∷ xs) h = (h x, each P xs h)

at : {X : Type 0} (P : ℕ → ℕ → X → Type 0) (xs : List X) (d n : ℕ) → n < d → AllByRecursion (λ x. (d n : ℕ) → n < d → P d n x) xs → AllByRecursion (P d n) xs
at P [] d n lt all = tt
at P (x ∷ xs) d n lt all = (all.0 d n lt, at P xs d n lt all.1)

term_keeps : (f : Term → Term) (n : ℕ) → TermWalk f → ((k : ℕ) → has_in_term n (f (Var k)) ≡ has_in_term n (Var k)) → (t : Term) → has_in_term n (f t) ≡ has_in_term n t
term_keeps f n w e = term_induction _ (record {
  var = e;
  app = λ s ts all. ap (has_in_term n) (w.app s ts) ∙ (has_in_term-App n s (map f ts) ∙ (same_any (has_in_term n) (has_in_term n) f ts all ∙ sym (has_in_term-App n s ts)));
})

pub renumbering_keeps : (new : ℕ → ℕ) → KeepsNear (renumbered_term new)
renumbering_keeps new d n lt =
    term_keeps (renumbered_term new d) n (renumbering_term new d)
    (λ k.
    elim (below_or_above k d) [
      | inl h ↦ ap (has_in_term n) (bound new d k h)
      | inr h ↦
          ap (has_in_term n) (free new d k h)
          ∙ (has_in_term-Var n (new (k - d) + d) ∙ (differ (new (k - d) + d) n (λ e. omega arith) ∙ sym (has_in_term-Var n k ∙ differ k n (λ e. omega arith))))
    ])

pub placing_keeps : KeepsNear (λ d. instance_term (Var 0) d)
placing_keeps d n lt =
    term_keeps (instance_term (Var 0) d) n (placing_term (Var 0) d)
    (λ k.
    elim (below_or_above k d) [
      | inl h ↦ ap (has_in_term n) (smaller (Var 0) d k h)
      | inr h ↦
          elim (below_or_above d k) [
            | inl g ↦
                ap (has_in_term n) (greater (Var 0) d k g)
                ∙ (has_in_term-Var n (k - 1) ∙ (differ (k - 1) n (λ e. omega arith) ∙ sym (has_in_term-Var n k ∙ differ k n (λ e. omega arith))))
            | inr g ↦
                ap (has_in_term n) (here (Var 0) d k (omega arith) ∙ moves d 0 0 (omega arith))
                ∙ (has_in_term-Var n (0 + d) ∙ (differ (0 + d) n (λ e. omega arith) ∙ sym (has_in_term-Var n k ∙ differ k n (λ e. omega arith))))
          ]
    ])

module _ (f : ℕ → Term → Term) (w : ℕ → Form → Form) (walk : FormWalk f w) (keeps : KeepsNear f) where
  pub near_walk : (a : Form) (d n : ℕ) → n < d → has_variable n (w d a) ≡ has_variable n a
  near_walk = form_induction _ (record {
    atom = λ p ts d n lt. rw (walk.atom, has_variable-Atom, has_variable-Atom) (same_any (has_in_term n) (has_in_term n) (f d) ts (each _ ts (keeps d n lt)));
    eq = λ l r d n lt. rw (walk.eq, has_variable-Eq, has_variable-Eq, keeps d n lt l, keeps d n lt r) refl;
    not = λ a ih d n lt. rw (walk.not, has_variable-Not, has_variable-Not) (ih d n lt);
    and = λ as_ all d n lt. rw (walk.and, has_variable-And, has_variable-And) (same_any (has_variable n) (has_variable n) (w d) as_ (at (λ d n a. has_variable n (w d a) ≡ has_variable n a) as_ d n lt all));
    or = λ as_ all d n lt. rw (walk.or, has_variable-Or, has_variable-Or) (same_any (has_variable n) (has_variable n) (w d) as_ (at (λ d n a. has_variable n (w d a) ≡ has_variable n a) as_ d n lt all));
    imp = λ a b ih jh d n lt. rw (walk.imp, has_variable-Imp, has_variable-Imp, ih d n lt, jh d n lt) refl;
    iff = λ a b ih jh d n lt. rw (walk.iff, has_variable-Iff, has_variable-Iff, ih d n lt, jh d n lt) refl;
    all = λ s a ih d n lt. rw (walk.all, has_variable-All, has_variable-All) (ih (d + 1) (n + 1) (omega arith));
    ex = λ s a ih d n lt. rw (walk.ex, has_variable-Ex, has_variable-Ex) (ih (d + 1) (n + 1) (omega arith));
  })

  atomic_walk : (a : Form) (d : ℕ) → (own (w d a)).atomic ≡ (own a).atomic
  atomic_walk = form_induction _ (record {
    atom = λ p ts d. rw (walk.atom, own-Atom, own-Atom) refl;
    eq = λ l r d. rw (walk.eq, own-Eq, own-Eq) refl;
    not = λ a ih d. rw (walk.not, own-Not, own-Not) refl;
    and = λ as_ all d. rw (walk.and, own-And, own-And) refl;
    or = λ as_ all d. rw (walk.or, own-Or, own-Or) refl;
    imp = λ a b ih jh d. rw (walk.imp, own-Imp, own-Imp) refl;
    iff = λ a b ih jh d. rw (walk.iff, own-Iff, own-Iff) refl;
    all = λ s a ih d. rw (walk.all, own-All, own-All) refl;
    ex = λ s a ih d. rw (walk.ex, own-Ex, own-Ex) refl;
  })

  own_list : (d : ℕ) (as_ : List Form) → AllByRecursion (λ a. (d : ℕ) → IsOwn a → IsOwn (w d a)) as_ → AllByRecursion IsOwn as_ → AllByRecursion IsOwn (map (w d) as_)
  own_list d [] all h = tt
  own_list d (a ∷ as_) all h = (all.0 d h.0, own_list d as_ all.1 h.1)

  stand_list : (g : Bool) (d : ℕ) (as_ : List Form) → AllByRecursion (Stands g) as_ → AllByRecursion (Stands g) (map (w d) as_)
  stand_list g d [] h = tt
  stand_list g d (a ∷ as_) h = (stands_walk f w walk d g a ∙ h.0, stand_list g d as_ h.1)

  node_case : (g : Bool) (as_ : List Form) → AllByRecursion (λ a. (d : ℕ) → IsOwn a → IsOwn (w d a)) as_ → (d : ℕ) → IsOwn (node g as_) → IsOwn (w d (node g as_))
  node_case g as_ all d h =
      let m = own_node g as_ h in
      subst IsOwn (sym (node_walk f w walk d g as_))
      (node_own g (map (w d) as_) (record {
        own = own_list d as_ all m.own;
        stand = stand_list g d as_ m.stand;
        not_one = ap (λ n. not (n == 1)) (length-map as_ (w d)) ∙ m.not_one;
      }))

  pub own_walk : (a : Form) (d : ℕ) → IsOwn a → IsOwn (w d a)
  own_walk = form_induction _ (record {
    atom = λ p ts d h. rw walk.atom (ap own_in (own-Atom p (map (f d) ts)));
    eq = λ l r d h. rw walk.eq (ap own_in (own-Eq (f d l) (f d r)));
    not = λ a ih d h. rw walk.not (ap own_in (own-Not (w d a)) ∙ (atomic_walk a d ∙ (ap own_in (sym (own-Not a)) ∙ h)));
    and = node_case true;
    or = node_case false;
    imp = λ a b ih jh d h. absurd (own_imp a b h);
    iff = λ a b ih jh d h. absurd (own_iff a b h);
    all = λ s a ih d h.
        let parts = own_quantifier true s a h in
        rw walk.all (quantifier_own true s (w (d + 1) a) (ih (d + 1) parts.0) (near_walk a (d + 1) 0 (omega arith) ∙ parts.1));
    ex = λ s a ih d h.
        let parts = own_quantifier false s a h in
        rw walk.ex (quantifier_own false s (w (d + 1) a) (ih (d + 1) parts.0) (near_walk a (d + 1) 0 (omega arith) ∙ parts.1));
  })

pub own_renumbered : (new : ℕ → ℕ) (d : ℕ) (a : Form) → IsOwn a → IsOwn (renumbered new d a)
own_renumbered new d a h = own_walk _ _ (renumbering new) (renumbering_keeps new) a d h

pub own_lifted : (by n : ℕ) (a : Form) → IsOwn a → IsOwn (lifted by n a)
own_lifted by n a h = subst IsOwn (sym (lift_is by n a)) (own_renumbered (lift_number by n) 0 a h)

-- A normal form is its own.
signed_own_atom : (g : Bool) (p : ℕ) (ts : List Term) → IsOwn (signed g (Atom p ts))
signed_own_atom true p ts = ap own_in (own-Atom p ts)
signed_own_atom false p ts = ap own_in (own-Not (Atom p ts)) ∙ (rw (own-Atom p ts) refl)

signed_own_eq : (g : Bool) (l r : Term) → IsOwn (signed g (Eq l r))
signed_own_eq true l r = ap own_in (own-Eq l r)
signed_own_eq false l r = ap own_in (own-Not (Eq l r)) ∙ (rw (own-Eq l r) refl)

either : (b : Bool) → (b ≡ true) ⊎ (b ≡ false)
either true = inl refl
either false = inr refl

quantified_own : (g : Bool) (s : ℕ) (a : Form) → IsOwn a → IsOwn (quantified g s a)
quantified_own g s a h =
    elim (either (has_variable 0 a)) [
      | inl e ↦ rw (quantified-kept g s a e) (quantifier_own g s a h e)
      | inr e ↦ rw (quantified-dropped g s a e) (own_walk _ _ (placing (Var 0) (λ d. d) (λ d. refl)) placing_keeps a 0 h)
    ]

norms : (g : Bool) (as_ : List Form) → AllByRecursion (λ a. (g : Bool) → IsOwn (norm_of g a)) as_ → AllByRecursion IsOwn (map (norm_of g) as_)
norms g [] all = tt
norms g (a ∷ as_) all = (all.0 g, norms g as_ all.1)

pub norm_own : (a : Form) (g : Bool) → IsOwn (norm_of g a)
norm_own = form_induction _ (record {
  atom = λ p ts g. rw norm_of-Atom (signed_own_atom g p ts);
  eq = λ l r g. rw norm_of-Eq (signed_own_eq g l r);
  not = λ a ih g. rw norm_of-Not (ih (not g));
  and = λ as_ all g. rw norm_of-And (join_own g (map (norm_of g) as_) (norms g as_ all));
  or = λ as_ all g. rw norm_of-Or (join_own (not g) (map (norm_of g) as_) (norms g as_ all));
  imp = λ a b ih jh g. rw norm_of-Imp (join_own (not g) (norm_of (not g) a ∷ norm_of g b ∷ []) (ih (not g), (jh g, tt)));
  iff = λ a b ih jh g.
      let xs = norm_of (not g) a ∷ norm_of g b ∷ [] in
      let ys = norm_of g a ∷ norm_of (not g) b ∷ [] in
      rw norm_of-Iff (join_own g (join (not g) xs ∷ join (not g) ys ∷ []) (join_own (not g) xs (ih (not g), (jh g, tt)), (join_own (not g) ys (ih g, (jh (not g), tt)), tt)));
  all = λ s a ih g. rw norm_of-All (quantified_own g s (norm_of g a) (ih g));
  ex = λ s a ih g. rw norm_of-Ex (quantified_own (not g) s (norm_of g a) (ih g));
})

-- A formula that is a normal form is one by its structure.
pub own_of_norm : (a : Form) → norm_of true a ≡ a → IsOwn a
own_of_norm a e = subst IsOwn e (norm_own a true)

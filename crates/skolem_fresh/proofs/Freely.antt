-- A formula speaks only of some variables where each that stands free in it is one of them.
use Rattle.std.specs.Prelude.{ℕ, ◌≡◌, ◌+◌, ◌-◌, ◌<◌, ◌==◌, ◌||◌, ◌&&◌, nat_lt, true, false, Bool, List, [], ◌∷◌, map, refl}
use Rattle.std.specs.List.{AllByRecursion, list_any, list_all}
use Rattle.std.proofs.Common.{ap, sym, subst, ◌∙◌, arith, ◌⊎◌, inl, inr}
use Rattle.std.proofs.lemmas.Bool.Decides.{nat_tests}
use Rattle.std.proofs.lemmas.Bool.{lt-ltb, le-ltb}
use Rattle.fof_terms.specs.declared.term.Term.{Term, Var, App}
use Rattle.fof_terms.specs.declared.form.Form.{Form, Atom, Not, And, Or, All, Ex}
use Rattle.fof_terms.proofs.Induction.{term_induction, form_induction}
use Rattle.fof_terms.proofs.LiftingLaws.{both, below_or_above}
use Rattle.fof_terms.proofs.Walks.{TermWalk, FormWalk}
use Rattle.fof_terms.specs.Variables.{has_in_term, has_variable}
use Rattle.fof_terms.proofs.VariablesFacts.{has_in_term-Var, has_in_term-App, has_variable-Atom, has_variable-Eq, has_variable-Not, has_variable-And, has_variable-Or, has_variable-Imp, has_variable-Iff, has_variable-All, has_variable-Ex}
use Rattle.fof_terms.specs.Standing.{is_listed}
use Rattle.skolem_fresh.specs.code.Only.{only_in_term, only_has}
use Rattle.skolem_fresh.proofs.OnlyFacts.{only_in_term-Var, only_in_term-App, only_has-Atom, only_has-Eq, only_has-Not, only_has-And, only_has-Or, only_has-Imp, only_has-Iff, only_has-All, only_has-Ex}

pub one_of : (a b : Bool) → (a || b) ≡ true → (a ≡ true) ⊎ (b ≡ true)
one_of true b e = inl refl
one_of false b e = inr e

pub at : {X I : Type 0} (P : I → X → Type 0) (xs : List X) (i : I) → AllByRecursion (λ x. (i : I) → P i x) xs → AllByRecursion (P i) xs
at P [] i all = tt
at P (x ∷ xs) i all = (all.0 i, at P xs i all.1)

pub each : {X : Type 0} (P : X → Type 0) (xs : List X) → ((x : X) → P x) → AllByRecursion P xs
each P [] h = tt
each P (x ∷ xs) h = (h x, each P xs h)

some_of : {X : Type 0} (p q : X → Bool) (R : Type 0) (xs : List X) → AllByRecursion (λ x. p x ≡ true → q x ≡ true → R) xs → list_all p xs ≡ true → list_any q xs ≡ true → R
some_of p q R [] all h g = cc
some_of p q R (x ∷ xs) all h g =
    let parts = both (p x) (list_all p xs) h in
    elim (one_of (q x) (list_any q xs) g) [
      | inl here ↦ all.0 parts.0 here
      | inr there ↦ some_of p q R xs all.1 parts.1 there
    ]

or_right : (a b : Bool) → b ≡ true → (a || b) ≡ true
or_right true b e = refl
or_right false b e = e

or_left : (a b : Bool) → a ≡ true → (a || b) ≡ true
or_left true b e = refl
or_left false b e = cc

and_true : (a b : Bool) → a ≡ true → b ≡ true → (a && b) ≡ true
and_true a b e f = rw (e, f) refl

module _ (xs : List ℕ) where
  among_var : (d j k : ℕ) → (nat_lt j d || is_listed xs (j - d)) ≡ true → (j == k + d) ≡ true → is_listed xs k ≡ true
  among_var d j k h e =
      let same : j ≡ k + d = grind (arith, nat_tests) in
      let back : j - d ≡ k = omega arith in
      let far : nat_lt j d ≡ false = le-ltb j d (omega arith) in
      let h' : is_listed xs (j - d) ≡ true = rw far at h in
      rw back at h'

  -- a variable that stands in the term or formula is one of them
  pub only_term_has : (d k : ℕ) (t : Term) → only_in_term xs d t ≡ true → has_in_term (k + d) t ≡ true → is_listed xs k ≡ true
  only_term_has d k = term_induction _ (record {
    var = λ j h e. among_var d j k (rw only_in_term-Var at h) (rw has_in_term-Var at e);
    app = λ f ts all h e. some_of (only_in_term xs d) (has_in_term (k + d)) (is_listed xs k ≡ true) ts all (rw only_in_term-App at h) (rw has_in_term-App at e);
  })

  abbrev Has : ℕ × ℕ → Form → Type 0
  Has p a = only_has xs p.0 a ≡ true → has_variable (p.1 + p.0) a ≡ true → is_listed xs p.1 ≡ true

  further : (d k : ℕ) (a : Form) → has_variable (k + d + 1) a ≡ true → has_variable (k + (d + 1)) a ≡ true
  further d k a e = let same : k + d + 1 ≡ k + (d + 1) = omega arith in subst (λ n. has_variable n a ≡ true) same e

  pub only_form_has : (a : Form) (p : ℕ × ℕ) → Has p a
  only_form_has = form_induction _ (record {
    atom = λ q ts p h e. some_of (only_in_term xs p.0) (has_in_term (p.1 + p.0)) (is_listed xs p.1 ≡ true) ts (each _ ts (only_term_has p.0 p.1)) (rw only_has-Atom at h) (rw has_variable-Atom at e);
    eq = λ l r p h e.
        let parts = both (only_in_term xs p.0 l) (only_in_term xs p.0 r) (rw only_has-Eq at h) in
        elim (one_of (has_in_term (p.1 + p.0) l) (has_in_term (p.1 + p.0) r) (rw has_variable-Eq at e)) [
          | inl here ↦ only_term_has p.0 p.1 l parts.0 here
          | inr there ↦ only_term_has p.0 p.1 r parts.1 there
        ];
    not = λ a ih p h e. ih p (rw only_has-Not at h) (rw has_variable-Not at e);
    and = λ as_ all p h e. some_of (only_has xs p.0) (has_variable (p.1 + p.0)) (is_listed xs p.1 ≡ true) as_ (at Has as_ p all) (rw only_has-And at h) (rw has_variable-And at e);
    or = λ as_ all p h e. some_of (only_has xs p.0) (has_variable (p.1 + p.0)) (is_listed xs p.1 ≡ true) as_ (at Has as_ p all) (rw only_has-Or at h) (rw has_variable-Or at e);
    imp = λ a b ih jh p h e.
        let parts = both (only_has xs p.0 a) (only_has xs p.0 b) (rw only_has-Imp at h) in
        elim (one_of (has_variable (p.1 + p.0) a) (has_variable (p.1 + p.0) b) (rw has_variable-Imp at e)) [
          | inl here ↦ ih p parts.0 here
          | inr there ↦ jh p parts.1 there
        ];
    iff = λ a b ih jh p h e.
        let parts = both (only_has xs p.0 a) (only_has xs p.0 b) (rw only_has-Iff at h) in
        elim (one_of (has_variable (p.1 + p.0) a) (has_variable (p.1 + p.0) b) (rw has_variable-Iff at e)) [
          | inl here ↦ ih p parts.0 here
          | inr there ↦ jh p parts.1 there
        ];
    all = λ s a ih p h e. ih (p.0 + 1, p.1) (rw only_has-All at h) (further p.0 p.1 a (rw has_variable-All at e));
    ex = λ s a ih p h e. ih (p.0 + 1, p.1) (rw only_has-Ex at h) (further p.0 p.1 a (rw has_variable-Ex at e));
  })

  -- and the other way round
  var_among : (d j : ℕ) → ((k : ℕ) → (j == k + d) ≡ true → is_listed xs k ≡ true) → (nat_lt j d || is_listed xs (j - d)) ≡ true
  var_among d j h =
      elim (below_or_above j d) [
        | inl near ↦ rw (lt-ltb j d near) refl
        | inr far ↦ or_right (nat_lt j d) (is_listed xs (j - d)) (h (j - d) (let same : j ≡ j - d + d = omega arith in grind (arith, nat_tests)))
      ]

  all_among : {X : Type 0} (p : X → Bool) (q : ℕ → X → Bool) (ys : List X) → AllByRecursion (λ x. ((k : ℕ) → q k x ≡ true → is_listed xs k ≡ true) → p x ≡ true) ys
      → ((k : ℕ) → list_any (q k) ys ≡ true → is_listed xs k ≡ true) → list_all p ys ≡ true
  all_among p q [] all h = refl
  all_among p q (y ∷ ys) all h =
      and_true (p y) (list_all p ys) (all.0 (λ k e. h k (or_left (q k y) (list_any (q k) ys) e))) (all_among p q ys all.1 (λ k e. h k (or_right (q k y) (list_any (q k) ys) e)))

  pub term_only : (d : ℕ) (t : Term) → ((k : ℕ) → has_in_term (k + d) t ≡ true → is_listed xs k ≡ true) → only_in_term xs d t ≡ true
  term_only d = term_induction _ (record {
    var = λ j h. rw only_in_term-Var (var_among d j (λ k e. h k (rw has_in_term-Var e)));
    app = λ f ts all h. rw only_in_term-App (all_among (only_in_term xs d) (λ k t. has_in_term (k + d) t) ts all (λ k e. h k (rw has_in_term-App e)));
  })

  abbrev Only : ℕ → Form → Type 0
  Only d a = ((k : ℕ) → has_variable (k + d) a ≡ true → is_listed xs k ≡ true) → only_has xs d a ≡ true

  nearer : (d k : ℕ) (a : Form) → has_variable (k + (d + 1)) a ≡ true → has_variable (k + d + 1) a ≡ true
  nearer d k a e = let same : k + (d + 1) ≡ k + d + 1 = omega arith in subst (λ n. has_variable n a ≡ true) same e

  pub form_only : (a : Form) (d : ℕ) → Only d a
  form_only = form_induction _ (record {
    atom = λ q ts d h. rw only_has-Atom (all_among (only_in_term xs d) (λ k t. has_in_term (k + d) t) ts (each _ ts (term_only d)) (λ k e. h k (rw has_variable-Atom e)));
    eq = λ l r d h. rw only_has-Eq (and_true (only_in_term xs d l) (only_in_term xs d r)
        (term_only d l (λ k e. h k (rw has_variable-Eq (or_left (has_in_term (k + d) l) (has_in_term (k + d) r) e))))
        (term_only d r (λ k e. h k (rw has_variable-Eq (or_right (has_in_term (k + d) l) (has_in_term (k + d) r) e)))));
    not = λ a ih d h. rw only_has-Not (ih d (λ k e. h k (rw has_variable-Not e)));
    and = λ as_ all d h. rw only_has-And (all_among (only_has xs d) (λ k a. has_variable (k + d) a) as_ (at Only as_ d all) (λ k e. h k (rw has_variable-And e)));
    or = λ as_ all d h. rw only_has-Or (all_among (only_has xs d) (λ k a. has_variable (k + d) a) as_ (at Only as_ d all) (λ k e. h k (rw has_variable-Or e)));
    imp = λ a b ih jh d h. rw only_has-Imp (and_true (only_has xs d a) (only_has xs d b)
        (ih d (λ k e. h k (rw has_variable-Imp (or_left (has_variable (k + d) a) (has_variable (k + d) b) e))))
        (jh d (λ k e. h k (rw has_variable-Imp (or_right (has_variable (k + d) a) (has_variable (k + d) b) e)))));
    iff = λ a b ih jh d h. rw only_has-Iff (and_true (only_has xs d a) (only_has xs d b)
        (ih d (λ k e. h k (rw has_variable-Iff (or_left (has_variable (k + d) a) (has_variable (k + d) b) e))))
        (jh d (λ k e. h k (rw has_variable-Iff (or_right (has_variable (k + d) a) (has_variable (k + d) b) e)))));
    all = λ s a ih d h. rw only_has-All (ih (d + 1) (λ k e. h k (rw has_variable-All (nearer d k a e))));
    ex = λ s a ih d h. rw only_has-Ex (ih (d + 1) (λ k e. h k (rw has_variable-Ex (nearer d k a e))));
  })

  agree_where : {X Y : Type 0} (f g : X → Y) (p : X → Bool) (ys : List X) → AllByRecursion (λ x. p x ≡ true → f x ≡ g x) ys → list_all p ys ≡ true → map f ys ≡ map g ys
  agree_where f g p [] e h = refl
  agree_where f g p (y ∷ ys) e h = let parts = both (p y) (list_all p ys) h in rw (e.0 parts.0, agree_where f g p ys e.1 parts.1) refl

  -- walks that agree on these variables agree on what speaks only of them
  pub same_term_where : (d : ℕ) (f g : Term → Term) → TermWalk f → TermWalk g → ((k : ℕ) → (nat_lt k d || is_listed xs (k - d)) ≡ true → f (Var k) ≡ g (Var k)) → (t : Term) → only_in_term xs d t ≡ true → f t ≡ g t
  same_term_where d f g wf wg e = term_induction _ (record {
    var = λ k h. e k (rw only_in_term-Var at h);
    app = λ s ts all h. rw (wf.app, wg.app) (ap (App s) (agree_where f g (only_in_term xs d) ts all (rw only_in_term-App at h)));
  })

  pub same_form_where : (f f' : ℕ → Term → Term) (g g' : ℕ → Form → Form) → FormWalk f g → FormWalk f' g' → ((d : ℕ) (t : Term) → only_in_term xs d t ≡ true → f d t ≡ f' d t)
      → (a : Form) (d : ℕ) → only_has xs d a ≡ true → g d a ≡ g' d a
  same_form_where f f' g g' w w' e = form_induction _ (record {
    atom = λ p ts d h. rw (w.atom, w'.atom) (ap (Atom p) (agree_where (f d) (f' d) (only_in_term xs d) ts (each _ ts (e d)) (rw only_has-Atom at h)));
    eq = λ l r d h. let parts = both (only_in_term xs d l) (only_in_term xs d r) (rw only_has-Eq at h) in rw (w.eq, w'.eq, e d l parts.0, e d r parts.1) refl;
    not = λ a ih d h. rw (w.not, w'.not) (ap Not (ih d (rw only_has-Not at h)));
    and = λ as_ all d h. rw (w.and, w'.and) (ap And (agree_where (g d) (g' d) (only_has xs d) as_ (at (λ d a. only_has xs d a ≡ true → g d a ≡ g' d a) as_ d all) (rw only_has-And at h)));
    or = λ as_ all d h. rw (w.or, w'.or) (ap Or (agree_where (g d) (g' d) (only_has xs d) as_ (at (λ d a. only_has xs d a ≡ true → g d a ≡ g' d a) as_ d all) (rw only_has-Or at h)));
    imp = λ a b ih jh d h. let parts = both (only_has xs d a) (only_has xs d b) (rw only_has-Imp at h) in rw (w.imp, w'.imp, ih d parts.0, jh d parts.1) refl;
    iff = λ a b ih jh d h. let parts = both (only_has xs d a) (only_has xs d b) (rw only_has-Iff at h) in rw (w.iff, w'.iff, ih d parts.0, jh d parts.1) refl;
    all = λ s a ih d h. rw (w.all, w'.all) (ap (All s) (ih (d + 1) (rw only_has-All at h)));
    ex = λ s a ih d h. rw (w.ex, w'.ex) (ap (Ex s) (ih (d + 1) (rw only_has-Ex at h)));
  })

-- What speaks only of some variables still does when a quantifier is opened.
use Rattle.std.specs.Prelude.{ℕ, ◌≡◌, ◌+◌, ◌-◌, ◌<◌, ◌≤◌, ◌==◌, ◌||◌, ◌&&◌, nat_lt, Bool, true, false, List, [], ◌∷◌, map, refl}
use Rattle.std.specs.List.{AllByRecursion, list_any, list_all}
use Rattle.std.proofs.Common.{ap, sym, subst, ◌∙◌, arith, ◌⊎◌, inl, inr}
use Rattle.std.proofs.lemmas.Bool.Decides.{nat_tests}
use Rattle.std.proofs.lemmas.Bool.{lt-ltb, le-ltb}
use Rattle.std.proofs.lemmas.List.Folds.{list_all-map}
use Rattle.fof_terms.specs.declared.term.Term.{Term, Var, App}
use Rattle.fof_terms.specs.declared.form.Form.{Form, Ex}
use Rattle.fof_terms.proofs.Induction.{term_induction, form_induction}
use Rattle.fof_terms.proofs.LiftingLaws.{both, below_or_above, stays, moves, smaller, greater, here}
use Rattle.fof_terms.specs.Lift.{lifted_term, lifted}
use Rattle.fof_terms.proofs.LiftFacts.{lifted_term-App, lifted-Atom, lifted-Eq, lifted-Not, lifted-And, lifted-Or, lifted-Imp, lifted-Iff, lifted-All, lifted-Ex}
use Rattle.fof_terms.specs.Instance.{instance_term, instance_at, instance_of}
use Rattle.fof_terms.proofs.InstanceFacts.{instance_term-App, instance_at-Atom, instance_at-Eq, instance_at-Not, instance_at-And, instance_at-Or, instance_at-Imp, instance_at-Iff, instance_at-All, instance_at-Ex}
use Rattle.fof_terms.proofs.Unused.{unused_back}
use Rattle.fof_terms.specs.Variables.{has_variable}
use Rattle.fof_terms.specs.Standing.{is_listed}
use Rattle.skolem_fresh.specs.code.Only.{only_in_term, only_has}
use Rattle.skolem_fresh.proofs.OnlyFacts.{only_in_term-Var, only_in_term-App, only_has-Atom, only_has-Eq, only_has-Not, only_has-And, only_has-Or, only_has-Imp, only_has-Iff, only_has-All, only_has-Ex}
use Rattle.skolem_fresh.specs.Uses.{value}
use Rattle.skolem_fresh.proofs.Freely.{at, each}

only_there : (a b : Bool) → a ≡ false → (a || b) ≡ true → b ≡ true
only_there true b e h = cc
only_there false b e h = h

or_right : (a b : Bool) → b ≡ true → (a || b) ≡ true
or_right true b e = refl
or_right false b e = e

or_left : (a b : Bool) → a ≡ true → (a || b) ≡ true
or_left true b e = refl
or_left false b e = cc

and_true : (a b : Bool) → a ≡ true → b ≡ true → (a && b) ≡ true
and_true a b e f = rw (e, f) refl

all_still : {X : Type 0} (p q : X → Bool) (f : X → X) (ys : List X) → AllByRecursion (λ y. p y ≡ true → q (f y) ≡ true) ys → list_all p ys ≡ true → list_all q (map f ys) ≡ true
all_still p q f [] all h = refl
all_still p q f (y ∷ ys) all h = let parts = both (p y) (list_all p ys) h in and_true (q (f y)) (list_all q (map f ys)) (all.0 parts.0) (all_still p q f ys all.1 parts.1)

module _ (xs : List ℕ) where
  among_lifted : (d j : ℕ) → is_listed xs j ≡ true → (nat_lt (j + d) d || is_listed xs (j + d - d)) ≡ true
  among_lifted d j h = let same : j + d - d ≡ j = omega arith in rw same (or_right (nat_lt (j + d) d) (is_listed xs j) h)

  at_top : (j : ℕ) → (nat_lt j 0 || is_listed xs (j - 0)) ≡ true → is_listed xs j ≡ true
  at_top j h =
      let off : nat_lt j 0 ≡ false = le-ltb j 0 (omega arith) in
      let same : j - 0 ≡ j = omega arith in
      let h' : is_listed xs (j - 0) ≡ true = only_there (nat_lt j 0) (is_listed xs (j - 0)) off h in
      rw same at h'

  only_lifted_up : (d : ℕ) (t : Term) → only_in_term xs 0 t ≡ true → only_in_term xs d (lifted_term d 0 t) ≡ true
  only_lifted_up d = term_induction _ (record {
    var = λ j h. rw (moves d 0 j (omega arith), only_in_term-Var) (among_lifted d j (at_top j (rw only_in_term-Var at h)));
    app = λ f ts all h. rw (lifted_term-App, only_in_term-App) (all_still (only_in_term xs 0) (only_in_term xs d) (lifted_term d 0) ts all (rw only_in_term-App at h));
  })

  module _ (x : Term) (only : only_in_term xs 0 x ≡ true) where
    only_var : (d j : ℕ) → (nat_lt j (d + 1) || is_listed xs (j - (d + 1))) ≡ true → only_in_term xs d (instance_term x d (Var j)) ≡ true
    only_var d j h =
        elim (below_or_above j d) [
          | inl near ↦ rw (smaller x d j near, only_in_term-Var) (or_left (nat_lt j d) (is_listed xs (j - d)) (lt-ltb j d near))
          | inr far ↦
              elim (below_or_above d j) [
                | inl past ↦
                    let off : nat_lt j (d + 1) ≡ false = le-ltb j (d + 1) (omega arith) in
                    let there : is_listed xs (j - (d + 1)) ≡ true = only_there (nat_lt j (d + 1)) (is_listed xs (j - (d + 1))) off h in
                    let same : j - 1 - d ≡ j - (d + 1) = omega arith in
                    rw (greater x d j past, only_in_term-Var, same) (or_right (nat_lt (j - 1) d) (is_listed xs (j - (d + 1))) there)
                | inr at ↦ rw (here x d j (omega arith)) (only_lifted_up d x only)
              ]
        ]

    only_instance_term : (d : ℕ) (t : Term) → only_in_term xs (d + 1) t ≡ true → only_in_term xs d (instance_term x d t) ≡ true
    only_instance_term d = term_induction _ (record {
      var = λ j h. only_var d j (rw only_in_term-Var at h);
      app = λ f ts all h. rw (instance_term-App, only_in_term-App) (all_still (only_in_term xs (d + 1)) (only_in_term xs d) (instance_term x d) ts all (rw only_in_term-App at h));
    })

    abbrev Still : ℕ → Form → Type 0
    Still d a = only_has xs (d + 1) a ≡ true → only_has xs d (instance_at x d a) ≡ true

    pub only_instance : (a : Form) (d : ℕ) → Still d a
    only_instance = form_induction _ (record {
      atom = λ p ts d h. rw (instance_at-Atom, only_has-Atom) (all_still (only_in_term xs (d + 1)) (only_in_term xs d) (instance_term x d) ts (each _ ts (only_instance_term d)) (rw only_has-Atom at h));
      eq = λ l r d h.
          let parts = both (only_in_term xs (d + 1) l) (only_in_term xs (d + 1) r) (rw only_has-Eq at h) in
          rw (instance_at-Eq, only_has-Eq) (and_true (only_in_term xs d (instance_term x d l)) (only_in_term xs d (instance_term x d r)) (only_instance_term d l parts.0) (only_instance_term d r parts.1));
      not = λ a ih d h. rw (instance_at-Not, only_has-Not) (ih d (rw only_has-Not at h));
      and = λ as_ all d h. rw (instance_at-And, only_has-And) (all_still (only_has xs (d + 1)) (only_has xs d) (instance_at x d) as_ (at Still as_ d all) (rw only_has-And at h));
      or = λ as_ all d h. rw (instance_at-Or, only_has-Or) (all_still (only_has xs (d + 1)) (only_has xs d) (instance_at x d) as_ (at Still as_ d all) (rw only_has-Or at h));
      imp = λ a b ih jh d h.
          let parts = both (only_has xs (d + 1) a) (only_has xs (d + 1) b) (rw only_has-Imp at h) in
          rw (instance_at-Imp, only_has-Imp) (and_true (only_has xs d (instance_at x d a)) (only_has xs d (instance_at x d b)) (ih d parts.0) (jh d parts.1));
      iff = λ a b ih jh d h.
          let parts = both (only_has xs (d + 1) a) (only_has xs (d + 1) b) (rw only_has-Iff at h) in
          rw (instance_at-Iff, only_has-Iff) (and_true (only_has xs d (instance_at x d a)) (only_has xs d (instance_at x d b)) (ih d parts.0) (jh d parts.1));
      all = λ s a ih d h. rw (instance_at-All, only_has-All) (ih (d + 1) (rw only_has-All at h));
      ex = λ s a ih d h. rw (instance_at-Ex, only_has-Ex) (ih (d + 1) (rw only_has-Ex at h));
    })

  -- over one variable more
  lifted_var : (d j : ℕ) → only_in_term xs (d + 1) (lifted_term 1 d (Var j)) ≡ true → (nat_lt j d || is_listed xs (j - d)) ≡ true
  lifted_var d j h =
      elim (below_or_above j d) [
        | inl near ↦ or_left (nat_lt j d) (is_listed xs (j - d)) (lt-ltb j d near)
        | inr far ↦
            let h' : (nat_lt (j + 1) (d + 1) || is_listed xs (j + 1 - (d + 1))) ≡ true = rw (moves 1 d j far, only_in_term-Var) at h in
            let off : nat_lt (j + 1) (d + 1) ≡ false = le-ltb (j + 1) (d + 1) (omega arith) in
            let same : j + 1 - (d + 1) ≡ j - d = omega arith in
            let there : is_listed xs (j + 1 - (d + 1)) ≡ true = only_there (nat_lt (j + 1) (d + 1)) (is_listed xs (j + 1 - (d + 1))) off h' in
            or_right (nat_lt j d) (is_listed xs (j - d)) (rw same at there)
      ]

  all_back : {X : Type 0} (p q : X → Bool) (f : X → X) (ys : List X) → AllByRecursion (λ y. q (f y) ≡ true → p y ≡ true) ys → list_all q (map f ys) ≡ true → list_all p ys ≡ true
  all_back p q f [] all h = refl
  all_back p q f (y ∷ ys) all h = let parts = both (q (f y)) (list_all q (map f ys)) h in and_true (p y) (list_all p ys) (all.0 parts.0) (all_back p q f ys all.1 parts.1)

  lifted_term_only : (d : ℕ) (t : Term) → only_in_term xs (d + 1) (lifted_term 1 d t) ≡ true → only_in_term xs d t ≡ true
  lifted_term_only d = term_induction _ (record {
    var = λ j h. rw only_in_term-Var (lifted_var d j h);
    app = λ f ts all h. rw only_in_term-App (all_back (only_in_term xs d) (only_in_term xs (d + 1)) (lifted_term 1 d) ts all (rw (lifted_term-App, only_in_term-App) at h));
  })

  abbrev Back : ℕ → Form → Type 0
  Back d a = only_has xs (d + 1) (lifted 1 d a) ≡ true → only_has xs d a ≡ true

  pub lifted_only : (a : Form) (d : ℕ) → Back d a
  lifted_only = form_induction _ (record {
    atom = λ p ts d h. rw only_has-Atom (all_back (only_in_term xs d) (only_in_term xs (d + 1)) (lifted_term 1 d) ts (each _ ts (lifted_term_only d)) (rw (lifted-Atom, only_has-Atom) at h));
    eq = λ l r d h.
        let parts = both (only_in_term xs (d + 1) (lifted_term 1 d l)) (only_in_term xs (d + 1) (lifted_term 1 d r)) (rw (lifted-Eq, only_has-Eq) at h) in
        rw only_has-Eq (and_true (only_in_term xs d l) (only_in_term xs d r) (lifted_term_only d l parts.0) (lifted_term_only d r parts.1));
    not = λ a ih d h. rw only_has-Not (ih d (rw (lifted-Not, only_has-Not) at h));
    and = λ as_ all d h. rw only_has-And (all_back (only_has xs d) (only_has xs (d + 1)) (lifted 1 d) as_ (at Back as_ d all) (rw (lifted-And, only_has-And) at h));
    or = λ as_ all d h. rw only_has-Or (all_back (only_has xs d) (only_has xs (d + 1)) (lifted 1 d) as_ (at Back as_ d all) (rw (lifted-Or, only_has-Or) at h));
    imp = λ a b ih jh d h.
        let parts = both (only_has xs (d + 1) (lifted 1 d a)) (only_has xs (d + 1) (lifted 1 d b)) (rw (lifted-Imp, only_has-Imp) at h) in
        rw only_has-Imp (and_true (only_has xs d a) (only_has xs d b) (ih d parts.0) (jh d parts.1));
    iff = λ a b ih jh d h.
        let parts = both (only_has xs (d + 1) (lifted 1 d a)) (only_has xs (d + 1) (lifted 1 d b)) (rw (lifted-Iff, only_has-Iff) at h) in
        rw only_has-Iff (and_true (only_has xs d a) (only_has xs d b) (ih d parts.0) (jh d parts.1));
    all = λ s a ih d h. rw only_has-All (ih (d + 1) (rw (lifted-All, only_has-All) at h));
    ex = λ s a ih d h. rw only_has-Ex (ih (d + 1) (rw (lifted-Ex, only_has-Ex) at h));
  })

  -- what is left of an existential formula
  pub only_unused : (s : ℕ) (body : Form) → has_variable 0 body ≡ false → only_has xs 0 (Ex s body) ≡ true → only_has xs 0 (instance_of body (Var 0)) ≡ true
  only_unused s body off h =
      let h' : only_has xs (0 + 1) body ≡ true = rw only_has-Ex at h in
      lifted_only (instance_at (Var 0) 0 body) 0 (subst (λ b. only_has xs (0 + 1) b ≡ true) (sym (unused_back (Var 0) body 0 off)) h')

  pub only_value : (s f : ℕ) (body : Form) → only_in_term xs 0 (value f xs) ≡ true → only_has xs 0 (Ex s body) ≡ true → only_has xs 0 (instance_of body (value f xs)) ≡ true
  only_value s f body o h = let h' : only_has xs (0 + 1) body ≡ true = rw only_has-Ex at h in only_instance (value f xs) o body 0 h'

-- the value speaks of its variables
all_among : (xs ys : List ℕ) → ((k : ℕ) → is_listed ys k ≡ true → is_listed xs k ≡ true) → list_all (only_in_term xs 0) (map Var ys) ≡ true
all_among xs [] h = refl
all_among xs (y ∷ ys) h =
    let same : y - 0 ≡ y = omega arith in
    let itself : (y == y) ≡ true = grind (arith, nat_tests) in
    let first : is_listed xs y ≡ true = h y (or_left (y == y) (is_listed ys y) itself) in
    let first' : only_in_term xs 0 (Var y) ≡ true = rw (only_in_term-Var, same) (or_right (nat_lt y 0) (is_listed xs y) first) in
    and_true (only_in_term xs 0 (Var y)) (list_all (only_in_term xs 0) (map Var ys)) first' (all_among xs ys (λ k e. h k (or_right (y == k) (is_listed ys k) e)))

pub value_only : (f : ℕ) (xs : List ℕ) → only_in_term xs 0 (value f xs) ≡ true
value_only f xs = only_in_term-App xs 0 f (map Var xs) ∙ all_among xs xs (λ k e. e)

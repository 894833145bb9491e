-- The variables that stand in a formula, and those of a formula with new numbers.
use Rattle.std.specs.Prelude.{ℕ, ◌≡◌, ◌+◌, ◌-◌, ◌<◌, ◌≤◌, nat_eq, Bool, true, false, List, [], ◌∷◌, map, flat_map, refl}
use Rattle.std.specs.List.{AllByRecursion, list_any}
use Rattle.std.proofs.Common.{ap, sym, ◌∙◌, arith, ◌⊎◌, inl, inr}
use Rattle.std.proofs.lemmas.Bool.{lt-ltb, le-ltb, eq-eqb, eqb-true, eqb-false, ne_eqb}
use Rattle.std.proofs.lemmas.List.{map-append}
use Rattle.std.proofs.lemmas.List.Folds.{list_any-append}
use Rattle.std.proofs.lemmas.List.Concat.{flat_map-cons}
use Rattle.fof_terms.specs.declared.term.Term.{Term, Var}
use Rattle.fof_terms.specs.declared.form.Form.{Form}
use Rattle.fof_terms.specs.Variables.{has_in_term, has_variable}
use Rattle.fof_terms.proofs.Induction.{term_induction, form_induction}
use Rattle.fof_terms.proofs.LiftingLaws.{below_or_above}
use Rattle.fof_terms.proofs.VariablesFacts.{has_in_term-Var, has_in_term-App, has_variable-Atom, has_variable-Eq, has_variable-Not, has_variable-And, has_variable-Or, has_variable-Imp, has_variable-Iff, has_variable-All, has_variable-Ex}
use Rattle.flat_form.specs.Renumbered.{renumbered_term, renumbered}
use Rattle.flat_form.specs.Variables.{variables_of_term, variables_of}
use Rattle.flat_form.proofs.Order.{has}
use Rattle.flat_form.proofs.RenumberedFacts.{renumbered_term-App, renumbered-Atom, renumbered-Eq, renumbered-Not, renumbered-And, renumbered-Or, renumbered-Imp, renumbered-Iff, renumbered-All, renumbered-Ex}
use Rattle.flat_form.proofs.Renumbering.{bound, free}
use Rattle.flat_form.proofs.VariablesFacts.{variables_of_term-Var, variables_of_term-App, variables_of-Atom, variables_of-Eq, variables_of-Not, variables_of-And, variables_of-Or, variables_of-Imp, variables_of-Iff, variables_of-All, variables_of-Ex}

any_flat : {X Y : Type 0} (p : Y → Bool) (f : X → List Y) (q : X → Bool) (xs : List X) → AllByRecursion (λ x. list_any p (f x) ≡ q x) xs → list_any p (flat_map f xs) ≡ list_any q xs
any_flat p f q [] all = refl
any_flat p f q (x ∷ xs) all = ap (list_any p) (flat_map-cons f x xs) ∙ (list_any-append p (f x) (flat_map f xs) ∙ (rw (all.0, any_flat p f q xs all.1) refl))

each : {X : Type 0} (P : X → Type 0) (xs : List X) → ((x : X) → P x) → AllByRecursion P xs
each P [] h = tt
each P (x ∷ xs) h = (h x, each P xs h)

at : {X : Type 0} (P : ℕ → X → Type 0) (xs : List X) (d : ℕ) → AllByRecursion (λ x. (d : ℕ) → P d x) xs → AllByRecursion (P d) xs
at P [] d all = tt
at P (x ∷ xs) d all = (all.0 d, at P xs d all.1)

bound_here : (d k : ℕ) → k < d → variables_of_term d (Var k) ≡ []
bound_here d k h = rw (variables_of_term-Var, lt-ltb k d h) refl

free_here : (d k : ℕ) → d ≤ k → variables_of_term d (Var k) ≡ (k - d) ∷ []
free_here d k h = rw (variables_of_term-Var, le-ltb k d h) refl

either : (b : Bool) → (b ≡ true) ⊎ (b ≡ false)
either true = inl refl
either false = inr refl

-- whether a variable stands in a formula
module _ (q : ℕ) where
  in_variable : (d k : ℕ) → has q (variables_of_term d (Var k)) ≡ has_in_term (q + d) (Var k)
  in_variable d k =
      elim (below_or_above k d) [
        | inl h ↦ ap (has q) (bound_here d k h) ∙ sym (has_in_term-Var (q + d) k ∙ ne_eqb k (q + d) (λ e. omega arith))
        | inr h ↦
            ap (has q) (free_here d k h)
            ∙ elim (either (nat_eq q (k - d))) [
              | inl e ↦ let same = eqb-true q (k - d) e in rw e (sym (has_in_term-Var (q + d) k ∙ eq-eqb k (q + d) (omega arith)))
              | inr e ↦ let ne = eqb-false q (k - d) e in rw e (sym (has_in_term-Var (q + d) k ∙ ne_eqb k (q + d) (λ s. ne (omega arith))))
            ]
      ]

  in_term : (d : ℕ) (t : Term) → has q (variables_of_term d t) ≡ has_in_term (q + d) t
  in_term d = term_induction _ (record {
    var = in_variable d;
    app = λ f ts all. ap (has q) (variables_of_term-App d f ts) ∙ (any_flat (nat_eq q) (variables_of_term d) (has_in_term (q + d)) ts all ∙ sym (has_in_term-App (q + d) f ts));
  })

  in_all : (d : ℕ) (as_ : List Form) → AllByRecursion (λ a. (d : ℕ) → has q (variables_of d a) ≡ has_variable (q + d) a) as_ → has q (flat_map (variables_of d) as_) ≡ list_any (has_variable (q + d)) as_
  in_all d as_ all = any_flat (nat_eq q) (variables_of d) (has_variable (q + d)) as_ (at (λ d a. has q (variables_of d a) ≡ has_variable (q + d) a) as_ d all)

  under : (d : ℕ) (a : Form) → has_variable (q + (d + 1)) a ≡ has_variable (q + d + 1) a
  under d a = ap (λ n. has_variable n a) (let same : q + (d + 1) ≡ q + d + 1 = omega arith in same)

  pub in_form : (a : Form) (d : ℕ) → has q (variables_of d a) ≡ has_variable (q + d) a
  in_form = form_induction _ (record {
    atom = λ p ts d. ap (has q) (variables_of-Atom d p ts) ∙ (any_flat (nat_eq q) (variables_of_term d) (has_in_term (q + d)) ts (each _ ts (in_term d)) ∙ sym (has_variable-Atom (q + d) p ts));
    eq = λ l r d.
        ap (has q) (variables_of-Eq d l r)
        ∙ (list_any-append (nat_eq q) (variables_of_term d l) (variables_of_term d r) ∙ (rw (in_term d l, in_term d r) (sym (has_variable-Eq (q + d) l r))));
    not = λ a ih d. ap (has q) (variables_of-Not d a) ∙ (ih d ∙ sym (has_variable-Not (q + d) a));
    and = λ as_ all d. ap (has q) (variables_of-And d as_) ∙ (in_all d as_ all ∙ sym (has_variable-And (q + d) as_));
    or = λ as_ all d. ap (has q) (variables_of-Or d as_) ∙ (in_all d as_ all ∙ sym (has_variable-Or (q + d) as_));
    imp = λ a b ih jh d. ap (has q) (variables_of-Imp d a b) ∙ (list_any-append (nat_eq q) (variables_of d a) (variables_of d b) ∙ (rw (ih d, jh d) (sym (has_variable-Imp (q + d) a b))));
    iff = λ a b ih jh d. ap (has q) (variables_of-Iff d a b) ∙ (list_any-append (nat_eq q) (variables_of d a) (variables_of d b) ∙ (rw (ih d, jh d) (sym (has_variable-Iff (q + d) a b))));
    all = λ s a ih d. ap (has q) (variables_of-All d s a) ∙ (ih (d + 1) ∙ (under d a ∙ sym (has_variable-All (q + d) s a)));
    ex = λ s a ih d. ap (has q) (variables_of-Ex d s a) ∙ (ih (d + 1) ∙ (under d a ∙ sym (has_variable-Ex (q + d) s a)));
  })

  -- of one with no binder around
  pub stands_in : (a : Form) → has q (variables_of 0 a) ≡ has_variable q a
  stands_in a = in_form a 0 ∙ ap (λ n. has_variable n a) (let same : q + 0 ≡ q = omega arith in same)

-- the variables of a formula with new numbers have these
module _ (new : ℕ → ℕ) where
  map_flat : {X : Type 0} (f : X → List ℕ) (w : X → X) (xs : List X) → AllByRecursion (λ x. f (w x) ≡ map new (f x)) xs → flat_map f (map w xs) ≡ map new (flat_map f xs)
  map_flat f w [] all = refl
  map_flat f w (x ∷ xs) all =
      flat_map-cons f (w x) (map w xs)
      ∙ (rw (all.0, map_flat f w xs all.1) (sym (ap (map new) (flat_map-cons f x xs) ∙ map-append new (f x) (flat_map f xs))))

  new_variable : (d k : ℕ) → variables_of_term d (renumbered_term new d (Var k)) ≡ map new (variables_of_term d (Var k))
  new_variable d k =
      elim (below_or_above k d) [
        | inl h ↦ ap (variables_of_term d) (bound new d k h) ∙ (bound_here d k h ∙ sym (ap (map new) (bound_here d k h)))
        | inr h ↦
            let same : new (k - d) + d - d ≡ new (k - d) = omega arith in
            ap (variables_of_term d) (free new d k h)
            ∙ (free_here d (new (k - d) + d) (omega arith) ∙ (ap (λ n. n ∷ []) same ∙ sym (ap (map new) (free_here d k h))))
      ]

  new_term : (d : ℕ) (t : Term) → variables_of_term d (renumbered_term new d t) ≡ map new (variables_of_term d t)
  new_term d = term_induction _ (record {
    var = new_variable d;
    app = λ f ts all.
        ap (variables_of_term d) (renumbered_term-App new d f ts)
        ∙ (variables_of_term-App d f (map (renumbered_term new d) ts) ∙ (map_flat (variables_of_term d) (renumbered_term new d) ts all ∙ sym (ap (map new) (variables_of_term-App d f ts))));
  })

  new_all : (d : ℕ) (as_ : List Form) → AllByRecursion (λ a. (d : ℕ) → variables_of d (renumbered new d a) ≡ map new (variables_of d a)) as_ → flat_map (variables_of d) (map (renumbered new d) as_) ≡ map new (flat_map (variables_of d) as_)
  new_all d as_ all = map_flat (variables_of d) (renumbered new d) as_ (at (λ d a. variables_of d (renumbered new d a) ≡ map new (variables_of d a)) as_ d all)

  pub new_form : (a : Form) (d : ℕ) → variables_of d (renumbered new d a) ≡ map new (variables_of d a)
  new_form = form_induction _ (record {
    atom = λ p ts d. rw (renumbered-Atom, variables_of-Atom, variables_of-Atom) (map_flat (variables_of_term d) (renumbered_term new d) ts (each _ ts (new_term d)));
    eq = λ l r d. rw (renumbered-Eq, variables_of-Eq, variables_of-Eq, new_term d l, new_term d r) (sym (map-append new (variables_of_term d l) (variables_of_term d r)));
    not = λ a ih d. rw (renumbered-Not, variables_of-Not, variables_of-Not) (ih d);
    and = λ as_ all d. rw (renumbered-And, variables_of-And, variables_of-And) (new_all d as_ all);
    or = λ as_ all d. rw (renumbered-Or, variables_of-Or, variables_of-Or) (new_all d as_ all);
    imp = λ a b ih jh d. rw (renumbered-Imp, variables_of-Imp, variables_of-Imp, ih d, jh d) (sym (map-append new (variables_of d a) (variables_of d b)));
    iff = λ a b ih jh d. rw (renumbered-Iff, variables_of-Iff, variables_of-Iff, ih d, jh d) (sym (map-append new (variables_of d a) (variables_of d b)));
    all = λ s a ih d. rw (renumbered-All, variables_of-All, variables_of-All) (ih (d + 1));
    ex = λ s a ih d. rw (renumbered-Ex, variables_of-Ex, variables_of-Ex) (ih (d + 1));
  })

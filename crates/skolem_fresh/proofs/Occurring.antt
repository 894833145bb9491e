-- The symbols of formulas whose variables change.
use Rattle.std.specs.Prelude.{ℕ, ◌≡◌, ◌+◌, ◌-◌, ◌==◌, ◌||◌, ◌&&◌, nat_lt, Bool, true, false, List, [], ◌∷◌, map, refl}
use Rattle.std.specs.List.{AllByRecursion, list_any}
use Rattle.std.proofs.Common.{ap, sym, subst, ◌∙◌, arith, ◌⊎◌, inl, inr}
use Rattle.std.proofs.lemmas.Bool.Decides.{nat_tests}
use Rattle.fof_terms.specs.declared.term.Term.{Term, Var, App}
use Rattle.fof_terms.specs.declared.form.Form.{Form}
use Rattle.fof_terms.proofs.Induction.{term_induction, form_induction}
use Rattle.fof_terms.proofs.LiftingLaws.{below_or_above, smaller, greater, here, moves}
use Rattle.fof_terms.specs.Lift.{lifted_term}
use Rattle.fof_terms.proofs.LiftFacts.{lifted_term-App}
use Rattle.fof_terms.specs.Instance.{instance_term, instance_at}
use Rattle.fof_terms.proofs.InstanceFacts.{instance_term-App, instance_at-Atom, instance_at-Eq, instance_at-Not, instance_at-And, instance_at-Or, instance_at-Imp, instance_at-Iff, instance_at-All, instance_at-Ex}
use Rattle.fof_terms.specs.Occurs.{occurs_in, occurs_in_term}
use Rattle.fof_terms.proofs.OccursFacts.{list_any-map, occurs_in_term-Var, occurs_in_term-App, occurs_in-Atom, occurs_in-Eq, occurs_in-Not, occurs_in-And, occurs_in-Or, occurs_in-Imp, occurs_in-Iff, occurs_in-All, occurs_in-Ex}
use Rattle.fof_terms.specs.Variables.{has_in_term, has_variable}
use Rattle.fof_terms.proofs.VariablesFacts.{has_in_term-Var, has_in_term-App, has_variable-Atom, has_variable-Eq, has_variable-Not, has_variable-And, has_variable-Or, has_variable-Imp, has_variable-Iff, has_variable-All, has_variable-Ex}
use Rattle.fof_terms.proofs.Walks.{TermWalk, FormWalk}
use Rattle.skolem_fresh.proofs.Freely.{at, each}

any_agree : {X : Type 0} (f g : X → Bool) (xs : List X) → AllByRecursion (λ x. f x ≡ g x) xs → list_any f xs ≡ list_any g xs
any_agree f g [] e = refl
any_agree f g (x ∷ xs) e = rw (e.0, any_agree f g xs e.1) refl

module _ (k : ℕ) where
  -- a change of variables that keeps the symbols of each variable keeps them all
  pub walk_term_occurs : (f : Term → Term) → TermWalk f → ((j : ℕ) → occurs_in_term k (f (Var j)) ≡ false) → (t : Term) → occurs_in_term k (f t) ≡ occurs_in_term k t
  walk_term_occurs f w e = term_induction _ (record {
    var = λ j. e j ∙ sym (occurs_in_term-Var k j);
    app = λ s ts all. rw (w.app, occurs_in_term-App, occurs_in_term-App, list_any-map) (ap (λ b. (s == k) || b) (any_agree (λ t. occurs_in_term k (f t)) (occurs_in_term k) ts all));
  })

  pub walk_occurs : (f : ℕ → Term → Term) (g : ℕ → Form → Form) → FormWalk f g → ((d : ℕ) (t : Term) → occurs_in_term k (f d t) ≡ occurs_in_term k t) → (a : Form) (d : ℕ) → occurs_in k (g d a) ≡ occurs_in k a
  walk_occurs f g w e = form_induction _ (record {
    atom = λ p ts d. rw (w.atom, occurs_in-Atom, occurs_in-Atom, list_any-map) (ap (λ b. (p == k) || b) (any_agree (λ t. occurs_in_term k (f d t)) (occurs_in_term k) ts (each _ ts (e d))));
    eq = λ l r d. rw (w.eq, occurs_in-Eq, occurs_in-Eq, e d l, e d r) refl;
    not = λ a ih d. rw (w.not, occurs_in-Not, occurs_in-Not) (ih d);
    and = λ as_ all d. rw (w.and, occurs_in-And, occurs_in-And, list_any-map) (any_agree (λ a. occurs_in k (g d a)) (occurs_in k) as_ (at (λ d a. occurs_in k (g d a) ≡ occurs_in k a) as_ d all));
    or = λ as_ all d. rw (w.or, occurs_in-Or, occurs_in-Or, list_any-map) (any_agree (λ a. occurs_in k (g d a)) (occurs_in k) as_ (at (λ d a. occurs_in k (g d a) ≡ occurs_in k a) as_ d all));
    imp = λ a b ih jh d. rw (w.imp, occurs_in-Imp, occurs_in-Imp, ih d, jh d) refl;
    iff = λ a b ih jh d. rw (w.iff, occurs_in-Iff, occurs_in-Iff, ih d, jh d) refl;
    all = λ s a ih d. rw (w.all, occurs_in-All, occurs_in-All) (ih (d + 1));
    ex = λ s a ih d. rw (w.ex, occurs_in-Ex, occurs_in-Ex) (ih (d + 1));
  })

  pub lifted_occurs : (d : ℕ) (t : Term) → occurs_in_term k (lifted_term d 0 t) ≡ occurs_in_term k t
  lifted_occurs d = walk_term_occurs (lifted_term d 0) (record { app = λ s ts. lifted_term-App d 0 s ts }) (λ j. rw (moves d 0 j (omega arith)) (occurs_in_term-Var k (j + d)))

differ : (j d : ℕ) → (j ≡ d → ⊥) → (j == d) ≡ false
differ j d off = grind (arith, nat_tests)

same_number : (j d : ℕ) → j ≡ d → (j == d) ≡ true
same_number j d e = grind (arith, nat_tests)

or_of_true : (c : Bool) → true ≡ (c || true)
or_of_true true = refl
or_of_true false = refl

two_together : (a b c e z : Bool) → ((a || (b && z)) || (c || (e && z))) ≡ ((a || c) || ((b || e) && z))
two_together true b c e z = refl
two_together false true c e true = or_of_true c
two_together false true true e false = refl
two_together false true false true false = refl
two_together false true false false false = refl
two_together false false c e z = refl

head_together : (p a b z : Bool) → (p || (a || (b && z))) ≡ ((p || a) || (b && z))
head_together true a b z = refl
head_together false a b z = refl

-- What an instance has is what the formula has, and what the term has if the variable occurs.
module _ (k : ℕ) (x : Term) where
  abbrev with_x : Bool → Bool → Bool
  with_x own has = own || (has && occurs_in_term k x)

  any_with : {X : Type 0} (f g h : X → Bool) (xs : List X) → AllByRecursion (λ y. f y ≡ with_x (g y) (h y)) xs → list_any f xs ≡ with_x (list_any g xs) (list_any h xs)
  any_with f g h [] e = refl
  any_with f g h (y ∷ ys) e = rw (e.0, any_with f g h ys e.1) (two_together (g y) (h y) (list_any g ys) (list_any h ys) (occurs_in_term k x))

  var_with : (d j : ℕ) → occurs_in_term k (instance_term x d (Var j)) ≡ with_x false (j == d)
  var_with d j =
      elim (below_or_above j d) [
        | inl near ↦ let off : (j == d) ≡ false = differ j d (λ e. omega arith) in rw (smaller x d j near, occurs_in_term-Var, off) refl
        | inr far ↦
            elim (below_or_above d j) [
              | inl past ↦ let off : (j == d) ≡ false = differ j d (λ e. omega arith) in rw (greater x d j past, occurs_in_term-Var, off) refl
              | inr at ↦ let same : j ≡ d = omega arith in let on_ : (j == d) ≡ true = same_number j d same in rw (here x d j same, on_) (lifted_occurs k d x)
            ]
      ]

  pub instance_term_occurs : (d : ℕ) (t : Term) → occurs_in_term k (instance_term x d t) ≡ with_x (occurs_in_term k t) (has_in_term d t)
  instance_term_occurs d = term_induction _ (record {
    var = λ j. rw (has_in_term-Var, occurs_in_term-Var k j) (var_with d j);
    app = λ s ts all. rw (instance_term-App, occurs_in_term-App, occurs_in_term-App, has_in_term-App, list_any-map)
        (ap (λ b. (s == k) || b) (any_with (λ t. occurs_in_term k (instance_term x d t)) (occurs_in_term k) (has_in_term d) ts all)
        ∙ head_together (s == k) (list_any (occurs_in_term k) ts) (list_any (has_in_term d) ts) (occurs_in_term k x));
  })

  abbrev With : ℕ → Form → Type 0
  With d a = occurs_in k (instance_at x d a) ≡ with_x (occurs_in k a) (has_variable d a)

  pub instance_occurs : (a : Form) (d : ℕ) → With d a
  instance_occurs = form_induction _ (record {
    atom = λ p ts d. rw (instance_at-Atom, occurs_in-Atom, occurs_in-Atom, has_variable-Atom, list_any-map)
        (ap (λ b. (p == k) || b) (any_with (λ t. occurs_in_term k (instance_term x d t)) (occurs_in_term k) (has_in_term d) ts (each _ ts (instance_term_occurs d)))
        ∙ head_together (p == k) (list_any (occurs_in_term k) ts) (list_any (has_in_term d) ts) (occurs_in_term k x));
    eq = λ l r d. rw (instance_at-Eq, occurs_in-Eq, occurs_in-Eq, has_variable-Eq, instance_term_occurs d l, instance_term_occurs d r)
        (two_together (occurs_in_term k l) (has_in_term d l) (occurs_in_term k r) (has_in_term d r) (occurs_in_term k x));
    not = λ a ih d. rw (instance_at-Not, occurs_in-Not, occurs_in-Not, has_variable-Not) (ih d);
    and = λ as_ all d. rw (instance_at-And, occurs_in-And, occurs_in-And, has_variable-And, list_any-map) (any_with (λ a. occurs_in k (instance_at x d a)) (occurs_in k) (has_variable d) as_ (at With as_ d all));
    or = λ as_ all d. rw (instance_at-Or, occurs_in-Or, occurs_in-Or, has_variable-Or, list_any-map) (any_with (λ a. occurs_in k (instance_at x d a)) (occurs_in k) (has_variable d) as_ (at With as_ d all));
    imp = λ a b ih jh d. rw (instance_at-Imp, occurs_in-Imp, occurs_in-Imp, has_variable-Imp, ih d, jh d)
        (two_together (occurs_in k a) (has_variable d a) (occurs_in k b) (has_variable d b) (occurs_in_term k x));
    iff = λ a b ih jh d. rw (instance_at-Iff, occurs_in-Iff, occurs_in-Iff, has_variable-Iff, ih d, jh d)
        (two_together (occurs_in k a) (has_variable d a) (occurs_in k b) (has_variable d b) (occurs_in_term k x));
    all = λ s a ih d. rw (instance_at-All, occurs_in-All, occurs_in-All, has_variable-All) (ih (d + 1));
    ex = λ s a ih d. rw (instance_at-Ex, occurs_in-Ex, occurs_in-Ex, has_variable-Ex) (ih (d + 1));
  })

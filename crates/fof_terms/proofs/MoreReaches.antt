-- The distances that arise in instances of what is well-sorted, and in what was lifted before.
use Rattle.std.specs.Prelude.{ℕ, ◌≡◌, ◌+◌, ◌≤◌, ◌<◌, ◌^◌, List, [], ◌∷◌, map, length, slice_get, Some}
use Rattle.std.specs.List.{AllByRecursion}
use Rattle.std.proofs.Common.{arith, inl, inr}
use Rattle.std.proofs.lemmas.Bool.Decides.{nat_tests}
use Rattle.std.proofs.lemmas.Option.{slice_get_within}
use Rattle.std.proofs.lemmas.Simd.{map-map}
use Rattle.fof_terms.specs.declared.term.Term.{Term, Var}
use Rattle.fof_terms.specs.declared.form.Form.{Form}
use Rattle.fof_terms.specs.Vocabulary.{Vocabulary}
use Rattle.fof_terms.proofs.LiftingLaws.{below_or_above, stays, moves, applied_found}
use Rattle.fof_terms.specs.Lift.{greatest, lifted_term, lifted, lift_term_reach, lift_reach}
use Rattle.fof_terms.proofs.LiftFacts.{lifted_term-App, lifted-Atom, lifted-Eq, lifted-Not, lifted-And, lifted-Or, lifted-Imp, lifted-Iff, lifted-All, lifted-Ex, lift_term_reach-Var, lift_term_reach-App, lift_reach-Atom, lift_reach-Eq, lift_reach-Not, lift_reach-And, lift_reach-Or, lift_reach-Imp, lift_reach-Iff, lift_reach-All, lift_reach-Ex}
use Rattle.fof_terms.specs.Instance.{instance_term_reach, instance_reach}
use Rattle.fof_terms.proofs.InstanceFacts.{instance_term_reach-Var, instance_term_reach-App, instance_reach-Atom, instance_reach-Eq, instance_reach-Not, instance_reach-And, instance_reach-Or, instance_reach-Imp, instance_reach-Iff, instance_reach-All, instance_reach-Ex}
use Rattle.fof_terms.specs.Sorts.{sort_of_term, binder_depth}
use Rattle.fof_terms.proofs.SortsFacts.{sort_of_term-Var, sort_of_term-App, binder_depth-Atom, binder_depth-Eq, binder_depth-Not, binder_depth-And, binder_depth-Or, binder_depth-Imp, binder_depth-Iff, binder_depth-All, binder_depth-Ex}
use Rattle.fof_terms.proofs.Induction.{term_induction, form_induction}

most : {X : Type 0} (f : X → ℕ) (n : ℕ) (xs : List X) → AllByRecursion (λ x. f x ≤ n) xs → greatest (map f xs) ≤ n
most f n [] h = omega arith
most f n (x ∷ xs) h = omega (arith, h.0, most f n xs h.1)

each : {X : Type 0} (P : X → Type 0) (xs : List X) → ((x : X) → P x) → AllByRecursion P xs
each P [] h = tt
each P (x ∷ xs) h = (h x, each P xs h)

-- a term of a scope, lifted over d variables
module _ (v : Vocabulary) (scope : List ℕ) (d : ℕ) where
  abbrev HasSort : Term → Type 0
  HasSort t = (s : ℕ) × (sort_of_term v scope t ≡ Some s)

  found_most : (ts : List Term) → AllByRecursion (λ t. HasSort t → lift_term_reach d 0 t ≤ length scope + d) ts → AllByRecursion HasSort ts → greatest (map (lift_term_reach d 0) ts) ≤ length scope + d
  found_most [] all h = omega arith
  found_most (t ∷ ts) all h = omega (arith, all.0 h.0, found_most ts all.1 h.1)

  pub own_reach : (t : Term) → HasSort t → lift_term_reach d 0 t ≤ length scope + d
  own_reach = term_induction _ (record {
    var = λ k h. rw lift_term_reach-Var (grind (arith, slice_get_within scope k h.0 (rw sort_of_term-Var at h.1)));
    app = λ f ts all h. rw lift_term_reach-App (found_most ts all (applied_found (sort_of_term v scope) ts (slice_get v.symbols f) h.0 (rw sort_of_term-App at h.1)));
  })

module _ (x : Term) (n : ℕ) (own : (d : ℕ) → lift_term_reach d 0 x ≤ n + d) where
  term_reach : (d : ℕ) (t : Term) → instance_term_reach x d t ≤ n + d
  term_reach d = term_induction _ (record {
    var = λ k. rw instance_term_reach-Var (grind (arith, nat_tests, own d));
    app = λ f ts all. rw instance_term_reach-App (most (instance_term_reach x d) (n + d) ts all);
  })

  sum_most : (d : ℕ) (as_ : List Form) → AllByRecursion (λ a. (d : ℕ) → instance_reach x d a ≤ n + d + binder_depth a) as_ → greatest (map (instance_reach x d) as_) ≤ n + d + greatest (map binder_depth as_)
  sum_most d [] all = omega arith
  sum_most d (a ∷ as_) all = omega (arith, all.0 d, sum_most d as_ all.1)

  pub any_reach : (a : Form) (d : ℕ) → instance_reach x d a ≤ n + d + binder_depth a
  any_reach = form_induction _ (record {
    atom = λ p ts d. rw (instance_reach-Atom, binder_depth-Atom) (omega (arith, most (instance_term_reach x d) (n + d) ts (each _ ts (term_reach d))));
    eq = λ l r d. rw (instance_reach-Eq, binder_depth-Eq) (omega (arith, term_reach d l, term_reach d r));
    not = λ a ih d. rw (instance_reach-Not, binder_depth-Not) (ih d);
    and = λ as_ all d. rw (instance_reach-And, binder_depth-And) (sum_most d as_ all);
    or = λ as_ all d. rw (instance_reach-Or, binder_depth-Or) (sum_most d as_ all);
    imp = λ a b ih jh d. rw (instance_reach-Imp, binder_depth-Imp) (omega (arith, ih d, jh d));
    iff = λ a b ih jh d. rw (instance_reach-Iff, binder_depth-Iff) (omega (arith, ih d, jh d));
    all = λ s a ih d. rw (instance_reach-All, binder_depth-All) (omega (arith, ih (d + 1)));
    ex = λ s a ih d. rw (instance_reach-Ex, binder_depth-Ex) (omega (arith, ih (d + 1)));
  })

-- a term of the scope may be put into a formula over it
pub instance_reach_fits : (v : Vocabulary) (scope : List ℕ) (x : Term) (s : ℕ) (b : Form) → sort_of_term v scope x ≡ Some s → length scope ≤ 2147483647 → binder_depth b ≤ 2147483647 → instance_reach x 0 b < 2 ^ 32
instance_reach_fits v scope x s b e few depth = omega (arith, any_reach x (length scope) (λ d. own_reach v scope d x (s, e)) b 0)

-- What was lifted reaches further.
further_var : (d k : ℕ) → lift_term_reach 1 d (Var k) ≤ lift_term_reach 1 d (lifted_term 1 d (Var k))
further_var d k =
    elim (below_or_above k d) [
      | inl h ↦ rw (stays 1 d k h) (omega arith)
      | inr h ↦ rw (moves 1 d k h, lift_term_reach-Var, lift_term_reach-Var) (grind (arith, nat_tests))
    ]

further_all : {X : Type 0} (f g : X → ℕ) (xs : List X) → AllByRecursion (λ x. f x ≤ g x) xs → greatest (map f xs) ≤ greatest (map g xs)
further_all f g [] all = omega arith
further_all f g (x ∷ xs) all = omega (arith, all.0, further_all f g xs all.1)

further_term : (d : ℕ) (t : Term) → lift_term_reach 1 d t ≤ lift_term_reach 1 d (lifted_term 1 d t)
further_term d = term_induction _ (record {
  var = λ k. further_var d k;
  app = λ f ts all. rw (lifted_term-App, lift_term_reach-App, lift_term_reach-App, map-map) (further_all (lift_term_reach 1 d) (λ t. lift_term_reach 1 d (lifted_term 1 d t)) ts all);
})

at : {X I : Type 0} (P : I → X → Type 0) (xs : List X) (i : I) → AllByRecursion (λ x. (i : I) → P i x) xs → AllByRecursion (P i) xs
at P [] i all = tt
at P (x ∷ xs) i all = (all.0 i, at P xs i all.1)

abbrev Further : ℕ → Form → Type 0
Further d a = lift_reach 1 d a ≤ lift_reach 1 d (lifted 1 d a)

pub lifted_reaches_further : (a : Form) (d : ℕ) → Further d a
lifted_reaches_further = form_induction _ (record {
  atom = λ p ts d. rw (lifted-Atom, lift_reach-Atom, lift_reach-Atom, map-map) (further_all (lift_term_reach 1 d) (λ t. lift_term_reach 1 d (lifted_term 1 d t)) ts (each _ ts (further_term d)));
  eq = λ l r d. rw (lifted-Eq, lift_reach-Eq, lift_reach-Eq) (omega (arith, further_term d l, further_term d r));
  not = λ a ih d. rw (lifted-Not, lift_reach-Not, lift_reach-Not) (ih d);
  and = λ as_ all d. rw (lifted-And, lift_reach-And, lift_reach-And, map-map) (further_all (lift_reach 1 d) (λ a. lift_reach 1 d (lifted 1 d a)) as_ (at Further as_ d all));
  or = λ as_ all d. rw (lifted-Or, lift_reach-Or, lift_reach-Or, map-map) (further_all (lift_reach 1 d) (λ a. lift_reach 1 d (lifted 1 d a)) as_ (at Further as_ d all));
  imp = λ a b ih jh d. rw (lifted-Imp, lift_reach-Imp, lift_reach-Imp) (omega (arith, ih d, jh d));
  iff = λ a b ih jh d. rw (lifted-Iff, lift_reach-Iff, lift_reach-Iff) (omega (arith, ih d, jh d));
  all = λ s a ih d. rw (lifted-All, lift_reach-All, lift_reach-All) (omega (arith, ih (d + 1)));
  ex = λ s a ih d. rw (lifted-Ex, lift_reach-Ex, lift_reach-Ex) (omega (arith, ih (d + 1)));
})

-- what could be lifted before it was lifted, where it can be lifted again
pub all_lifted_before : (as_ : List Form) → AllByRecursion (λ a. lift_reach 1 0 a < 2 ^ 32) (map (lifted 1 0) as_) → AllByRecursion (λ a. lift_reach 1 0 a < 2 ^ 32) as_
all_lifted_before [] all = tt
all_lifted_before (a ∷ as_) all = (omega (arith, all.0, lifted_reaches_further a 0), all_lifted_before as_ all.1)

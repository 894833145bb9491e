-- Lifting over several variables, one after another or at once.
use Rattle.std.specs.Prelude.{ℕ, ◌≡◌, ◌+◌, ◌≤◌, ◌<◌, ◌^◌, List, [], ◌∷◌, map, slice_get, Option, Some, None, refl}
use Rattle.std.specs.List.{AllByRecursion}
use Rattle.std.specs.Option.{option_map}
use Rattle.std.proofs.Common.{ap, sym, ◌∙◌, arith, inl, inr, zero, suc}
use Rattle.std.proofs.lemmas.Bool.Decides.{nat_tests}
use Rattle.std.proofs.lemmas.Option.{slice_get-map}
use Rattle.std.proofs.lemmas.Simd.{map-map}
use Rattle.fof_terms.specs.declared.term.Term.{Term, Var}
use Rattle.fof_terms.specs.declared.form.Form.{Form}
use Rattle.fof_terms.specs.Lift.{greatest, lifted_term, lifted, lift_term_reach, lift_reach}
use Rattle.fof_terms.proofs.LiftFacts.{lifted_term-App, lifted-Atom, lifted-Eq, lifted-Not, lifted-And, lifted-Or, lifted-Imp, lifted-Iff, lifted-All, lifted-Ex, lift_term_reach-Var, lift_term_reach-App, lift_reach-Atom, lift_reach-Eq, lift_reach-Not, lift_reach-And, lift_reach-Or, lift_reach-Imp, lift_reach-Iff, lift_reach-All, lift_reach-Ex}
use Rattle.fof_terms.proofs.LiftingLaws.{below_or_above, stays, moves}
use Rattle.fof_terms.proofs.Walks.{lifting, lifting_term, staying, staying_term, both_walks, both_terms, same_terms, same_forms}
use Rattle.fof_terms.proofs.Induction.{term_induction, form_induction}

none_var : (d k : ℕ) → lifted_term 0 d (Var k) ≡ Var k
none_var d k =
    elim (below_or_above k d) [
      | inl h ↦ stays 0 d k h
      | inr h ↦ let same : k + 0 ≡ k = omega arith in moves 0 d k h ∙ ap Var same
    ]

-- over no variable
pub lifted_none : (a : Form) (d : ℕ) → lifted 0 d a ≡ a
lifted_none = same_forms _ _ _ _ (lifting 0 (λ d. d) (λ d. refl)) staying (λ d. same_terms _ _ (lifting_term 0 d) staying_term (none_var d))

more_var : (by more d k : ℕ) → lifted_term by d (lifted_term more d (Var k)) ≡ lifted_term (by + more) d (Var k)
more_var by more d k =
    elim (below_or_above k d) [
      | inl h ↦ rw (stays more d k h, stays (by + more) d k h) (stays by d k h)
      | inr h ↦
          let same : k + more + by ≡ k + (by + more) = omega arith in
          rw (moves more d k h, moves (by + more) d k h) (moves by d (k + more) (omega arith) ∙ ap Var same)
    ]

-- lifting twice is lifting once
pub lifted_more : (by more : ℕ) (a : Form) (d : ℕ) → lifted by d (lifted more d a) ≡ lifted (by + more) d a
lifted_more by more =
    same_forms _ _ _ _
    (both_walks _ _ _ _ (lifting by (λ d. d) (λ d. refl)) (lifting more (λ d. d) (λ d. refl)))
    (lifting (by + more) (λ d. d) (λ d. refl))
    (λ d. same_terms _ _ (both_terms _ _ (lifting_term by d) (lifting_term more d)) (lifting_term (by + more) d) (more_var by more d))

found_more : (by : ℕ) (r : Option Form) → option_map (lifted by 0) (option_map (lifted 1 0) r) ≡ option_map (lifted (by + 1) 0) r
found_more by None = refl
found_more by (Some a) = ap Some (lifted_more by 1 a 0)

-- a hypothesis over one variable more
pub found_over : (by : ℕ) (h : List Form) (i : ℕ) → option_map (lifted by 0) (slice_get (map (lifted 1 0) h) i) ≡ option_map (lifted (by + 1) 0) (slice_get h i)
found_over by h i = ap (option_map (lifted by 0)) (slice_get-map (lifted 1 0) h i) ∙ found_more by (slice_get h i)

pub found_same : (r : Option Form) → option_map (lifted 0 0) r ≡ r
found_same None = refl
found_same (Some a) = ap Some (lifted_none a 0)

-- What was lifted reaches as far as the lifting did.
reach_var : (by d k : ℕ) → lift_term_reach by d (Var k) ≤ lift_term_reach 1 d (lifted_term by d (Var k))
reach_var by d k =
    elim (below_or_above k d) [
      | inl h ↦ rw (stays by d k h, lift_term_reach-Var, lift_term_reach-Var) (grind (arith, nat_tests))
      | inr h ↦ rw (moves by d k h, lift_term_reach-Var, lift_term_reach-Var) (grind (arith, nat_tests))
    ]

most : {X : Type 0} (f g : X → ℕ) (xs : List X) → AllByRecursion (λ x. f x ≤ g x) xs → greatest (map f xs) ≤ greatest (map g xs)
most f g [] all = omega arith
most f g (x ∷ xs) all = omega (arith, all.0, most f g xs all.1)

each : {X : Type 0} (P : X → Type 0) (xs : List X) → ((x : X) → P x) → AllByRecursion P xs
each P [] h = tt
each P (x ∷ xs) h = (h x, each P xs h)

at : {X I : Type 0} (P : I → X → Type 0) (xs : List X) (i : I) → AllByRecursion (λ x. (i : I) → P i x) xs → AllByRecursion (P i) xs
at P [] i all = tt
at P (x ∷ xs) i all = (all.0 i, at P xs i all.1)

module _ (by : ℕ) where
  reach_term : (d : ℕ) (t : Term) → lift_term_reach by d t ≤ lift_term_reach 1 d (lifted_term by d t)
  reach_term d = term_induction _ (record {
    var = λ k. reach_var by d k;
    app = λ f ts all. rw (lifted_term-App, lift_term_reach-App, lift_term_reach-App, map-map) (most (lift_term_reach by d) (λ t. lift_term_reach 1 d (lifted_term by d t)) ts all);
  })

  abbrev Reached : ℕ → Form → Type 0
  Reached d a = lift_reach by d a ≤ lift_reach 1 d (lifted by d a)

  pub lifted_reaches : (a : Form) (d : ℕ) → Reached d a
  lifted_reaches = form_induction _ (record {
    atom = λ p ts d. rw (lifted-Atom, lift_reach-Atom, lift_reach-Atom, map-map) (most (lift_term_reach by d) (λ t. lift_term_reach 1 d (lifted_term by d t)) ts (each _ ts (reach_term d)));
    eq = λ l r d. rw (lifted-Eq, lift_reach-Eq, lift_reach-Eq) (omega (arith, reach_term d l, reach_term d r));
    not = λ a ih d. rw (lifted-Not, lift_reach-Not, lift_reach-Not) (ih d);
    and = λ as_ all d. rw (lifted-And, lift_reach-And, lift_reach-And, map-map) (most (lift_reach by d) (λ a. lift_reach 1 d (lifted by d a)) as_ (at Reached as_ d all));
    or = λ as_ all d. rw (lifted-Or, lift_reach-Or, lift_reach-Or, map-map) (most (lift_reach by d) (λ a. lift_reach 1 d (lifted by d a)) as_ (at Reached as_ d all));
    imp = λ a b ih jh d. rw (lifted-Imp, lift_reach-Imp, lift_reach-Imp) (omega (arith, ih d, jh d));
    iff = λ a b ih jh d. rw (lifted-Iff, lift_reach-Iff, lift_reach-Iff) (omega (arith, ih d, jh d));
    all = λ s a ih d. rw (lifted-All, lift_reach-All, lift_reach-All) (omega (arith, ih (d + 1)));
    ex = λ s a ih d. rw (lifted-Ex, lift_reach-Ex, lift_reach-Ex) (omega (arith, ih (d + 1)));
  })

-- a hypothesis that is in reach may be lifted over what was crossed
pub found_fits : (h : List Form) (i by : ℕ) (a : Form) → AllByRecursion (λ b. lift_reach 1 0 b < 2 ^ 32) h → slice_get h i ≡ Some (lifted by 0 a) → lift_reach by 0 a < 2 ^ 32
found_fits [] i by a all e = cc
found_fits (b ∷ h) zero by a all e =
    let one : b ≡ lifted by 0 a = cc in
    omega (arith, lifted_reaches by a 0, rw one at all.0)
found_fits (b ∷ h) (suc i) by a all e = found_fits h i by a all.1 e

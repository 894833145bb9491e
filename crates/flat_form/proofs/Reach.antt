-- The distances that arise where what is well-sorted is lifted over several variables, and where quantifiers are pulled
-- out of it.
use Rattle.std.specs.Prelude.{ℕ, ◌≡◌, ◌+◌, ◌≤◌, ◌<◌, ◌^◌, nat_lt, true, List, [], ◌∷◌, map, length, slice_get, Some, if◌then◌else◌}
use Rattle.std.specs.List.{AllByRecursion}
use Rattle.std.proofs.Common.{arith}
use Rattle.std.proofs.lemmas.Bool.Decides.{nat_tests}
use Rattle.std.proofs.lemmas.Option.{slice_get_within}
use Rattle.fof_terms.specs.declared.term.Term.{Term}
use Rattle.fof_terms.specs.declared.form.Form.{Form}
use Rattle.fof_terms.specs.Vocabulary.{Vocabulary}
use Rattle.fof_terms.proofs.Induction.{term_induction, form_induction}
use Rattle.fof_terms.proofs.LiftingLaws.{both, each_true, one_found, applied_found, holds_found}
use Rattle.fof_terms.specs.Lift.{greatest, lift_term_reach, lift_reach}
use Rattle.fof_terms.proofs.LiftFacts.{lift_term_reach-Var, lift_term_reach-App, lift_reach-Atom, lift_reach-Eq, lift_reach-Not, lift_reach-And, lift_reach-Or, lift_reach-Imp, lift_reach-Iff, lift_reach-All, lift_reach-Ex}
use Rattle.fof_terms.specs.Sorts.{sort_of_term, is_sorted, binder_depth}
use Rattle.clause_form.specs.Norm.{norm_of}
use Rattle.clause_form.specs.Sizes.{norm_size_of}
use Rattle.clause_form.proofs.NormFits.{norm_fits}
use Rattle.clause_form.proofs.NormSize.{norm_small}
use Rattle.clause_form.proofs.SizeLaws.{depth_within_size}
use Rattle.flat_form.specs.Flat.{pulled, pull_reach}
use Rattle.flat_form.proofs.Lists.{count_within}
use Rattle.fof_terms.proofs.SortsFacts.{sort_of_term-Var, sort_of_term-App, is_sorted-Atom, is_sorted-Eq, is_sorted-Not, is_sorted-And, is_sorted-Or, is_sorted-Imp, is_sorted-Iff, is_sorted-All, is_sorted-Ex, binder_depth-Atom, binder_depth-Eq, binder_depth-Not, binder_depth-And, binder_depth-Or, binder_depth-Imp, binder_depth-Iff, binder_depth-All, binder_depth-Ex}

module _ (v : Vocabulary) (by : ℕ) where
  abbrev HasSort : List ℕ → Term → Type 0
  HasSort scope t = (s : ℕ) × (sort_of_term v scope t ≡ Some s)

  most : (scope : List ℕ) (d : ℕ) (ts : List Term) → AllByRecursion (λ t. HasSort scope t → lift_term_reach by d t ≤ length scope + by) ts → AllByRecursion (HasSort scope) ts
      → greatest (map (lift_term_reach by d) ts) ≤ length scope + by
  most scope d [] all h = omega arith
  most scope d (t ∷ ts) all h = omega (arith, all.0 h.0, most scope d ts all.1 h.1)

  var_reach : (d k n : ℕ) → k < n → (if nat_lt k d then 0 else k + by) ≤ n + by
  var_reach d k n h = grind (arith, nat_tests)

  term_reach : (scope : List ℕ) (d : ℕ) (t : Term) → HasSort scope t → lift_term_reach by d t ≤ length scope + by
  term_reach scope d = term_induction _ (record {
    var = λ k h. rw lift_term_reach-Var (var_reach d k (length scope) (slice_get_within scope k h.0 (rw sort_of_term-Var at h.1)));
    app = λ f ts all h. rw lift_term_reach-App (most scope d ts all (applied_found (sort_of_term v scope) ts (slice_get v.symbols f) h.0 (rw sort_of_term-App at h.1)));
  })

  terms_reach : (scope : List ℕ) (d : ℕ) (ts : List Term) → AllByRecursion (HasSort scope) ts → greatest (map (lift_term_reach by d) ts) ≤ length scope + by
  terms_reach scope d [] h = omega arith
  terms_reach scope d (t ∷ ts) h = omega (arith, term_reach scope d t h.0, terms_reach scope d ts h.1)

  abbrev Goal : Form → Type 0
  Goal a = (scope : List ℕ) (d : ℕ) → d ≤ length scope → is_sorted v scope a ≡ true → lift_reach by d a ≤ length scope + binder_depth a + by

  all_reach : (scope : List ℕ) (d : ℕ) → d ≤ length scope → (as_ : List Form) → AllByRecursion Goal as_ → AllByRecursion (λ a. is_sorted v scope a ≡ true) as_
      → greatest (map (lift_reach by d) as_) ≤ length scope + greatest (map binder_depth as_) + by
  all_reach scope d le [] all h = omega arith
  all_reach scope d le (a ∷ as_) all h = omega (arith, all.0 scope d le h.0, all_reach scope d le as_ all.1 h.1)

  pub far_reach : (a : Form) → Goal a
  far_reach = form_induction _ (record {
    atom = λ p ts scope d le e. rw (lift_reach-Atom, binder_depth-Atom) (omega (arith, terms_reach scope d ts (holds_found (sort_of_term v scope) ts (slice_get v.symbols p) (rw is_sorted-Atom at e))));
    eq = λ l r scope d le e.
        let sides = one_found (sort_of_term v scope l) (sort_of_term v scope r) (rw is_sorted-Eq at e) in
        rw (lift_reach-Eq, binder_depth-Eq) (omega (arith, term_reach scope d l sides.0, term_reach scope d r sides.1));
    not = λ a ih scope d le e. rw (lift_reach-Not, binder_depth-Not) (ih scope d le (rw is_sorted-Not at e));
    and = λ as_ all scope d le e. rw (lift_reach-And, binder_depth-And) (all_reach scope d le as_ all (each_true (is_sorted v scope) as_ (rw is_sorted-And at e)));
    or = λ as_ all scope d le e. rw (lift_reach-Or, binder_depth-Or) (all_reach scope d le as_ all (each_true (is_sorted v scope) as_ (rw is_sorted-Or at e)));
    imp = λ a b ih jh scope d le e.
        let parts = both (is_sorted v scope a) (is_sorted v scope b) (rw is_sorted-Imp at e) in
        rw (lift_reach-Imp, binder_depth-Imp) (omega (arith, ih scope d le parts.0, jh scope d le parts.1));
    iff = λ a b ih jh scope d le e.
        let parts = both (is_sorted v scope a) (is_sorted v scope b) (rw is_sorted-Iff at e) in
        rw (lift_reach-Iff, binder_depth-Iff) (omega (arith, ih scope d le parts.0, jh scope d le parts.1));
    all = λ s a ih scope d le e.
        let parts = both (nat_lt s (length v.sorts)) (is_sorted v (s ∷ scope) a) (rw is_sorted-All at e) in
        rw (lift_reach-All, binder_depth-All) (omega (arith, ih (s ∷ scope) (d + 1) (omega arith) parts.1));
    ex = λ s a ih scope d le e.
        let parts = both (nat_lt s (length v.sorts)) (is_sorted v (s ∷ scope) a) (rw is_sorted-Ex at e) in
        rw (lift_reach-Ex, binder_depth-Ex) (omega (arith, ih (s ∷ scope) (d + 1) (omega arith) parts.1));
  })

-- room for what is pulled out of a normal form
pub pull_room : (v : Vocabulary) (scope : List ℕ) (a : Form) → length scope ≤ 1000000000 → is_sorted v scope a ≡ true → norm_size_of a ≤ 100000 → pull_reach a < 2 ^ 32
pull_room v scope a few fits le = omega (arith, far_reach v (length (pulled a).sorts) a scope 0 (omega arith) fits, few, depth_within_size a, count_within a)

-- and out of the normal form of a formula
pub flat_room : (v : Vocabulary) (scope : List ℕ) (a : Form) → length scope ≤ 1000000000 → is_sorted v scope a ≡ true → norm_size_of a ≤ 100000 → pull_reach (norm_of true a) < 2 ^ 32
flat_room v scope a few fits le = pull_room v scope (norm_of true a) few (norm_fits v a true scope fits) (omega (arith, norm_small a true))

-- Variables that stand free in a well-sorted formula are in its scope.
use Rattle.std.specs.Prelude.{ℕ, ◌≡◌, ◌+◌, ◌<◌, ◌==◌, ◌||◌, nat_lt, Bool, true, false, List, [], ◌∷◌, length, map, Some, slice_get, refl}
use Rattle.std.specs.List.{AllByRecursion, list_any}
use Rattle.std.proofs.Common.{sym, subst, ◌∙◌, ◌⊎◌, inl, inr, arith}
use Rattle.std.proofs.lemmas.Bool.Decides.{nat_tests}
use Rattle.std.proofs.lemmas.Option.{slice_get_within}
use Rattle.fof_terms.proofs.Induction.{term_induction, form_induction}
use Rattle.fof_terms.proofs.LiftingLaws.{both, each_true, applied_found, holds_found, one_found, here}
use Rattle.fof_terms.specs.Sorts.{applied, sort_of_term, is_sorted}
use Rattle.fof_terms.proofs.SortsFacts.{sort_of_term-Var, sort_of_term-App, is_sorted-Atom, is_sorted-Eq, is_sorted-Not, is_sorted-And, is_sorted-Or, is_sorted-Imp, is_sorted-Iff, is_sorted-All, is_sorted-Ex}
use Rattle.fof_terms.specs.Variables.{has_in_term, has_variable}
use Rattle.fof_terms.proofs.VariablesFacts.{has_in_term-Var, has_in_term-App, has_variable-Atom, has_variable-Eq, has_variable-Not, has_variable-And, has_variable-Or, has_variable-Imp, has_variable-Iff, has_variable-All, has_variable-Ex}
use Rattle.fof_terms.specs.Vocabulary.{Vocabulary}
use Rattle.fof_terms.specs.declared.term.Term.{Term}
use Rattle.fof_terms.specs.declared.form.Form.{Form}

of_all : {X : Type 0} (P : X → Type 0) (xs : List X) → ((x : X) → P x) → AllByRecursion P xs
of_all P [] h = tt
of_all P (x ∷ xs) h = (h x, of_all P xs h)

module _ (w : Vocabulary) where
  either : (a b : Bool) → (a || b) ≡ true → (a ≡ true) ⊎ (b ≡ true)
  either true b e = inl refl
  either false b e = inr e

  one_of : {X : Type 0} (f : X → Bool) (P : X → Type 0) (G : Type 0) (xs : List X) → AllByRecursion (λ x. P x → f x ≡ true → G) xs → AllByRecursion P xs → list_any f xs ≡ true → G
  one_of f P G [] all h e = cc
  one_of f P G (x ∷ xs) all h e = elim (either (f x) (list_any f xs) e) [
    | inl here ↦ all.0 h.0 here
    | inr there ↦ one_of f P G xs all.1 h.1 there
  ]

  same_number : (j k : ℕ) → (j == k) ≡ true → j ≡ k
  same_number j k e = grind (arith, nat_tests)

  term_below : (scope : List ℕ) (k : ℕ) (t : Term) → (r : ℕ) × (sort_of_term w scope t ≡ Some r) → has_in_term k t ≡ true → k < length scope
  term_below scope k = term_induction _ (record {
    var = λ j h e.
        let same : j ≡ k = same_number j k (rw has_in_term-Var at e) in
        subst (λ (n : ℕ). n < length scope) same (slice_get_within scope j h.0 (sym (sort_of_term-Var w scope j) ∙ h.1));
    app = λ f ts all h e.
        let old : applied (slice_get w.symbols f) (map (sort_of_term w scope) ts) ≡ Some h.0 = rw sort_of_term-App at h.1 in
        one_of (has_in_term k) (λ (t : Term). (r : ℕ) × (sort_of_term w scope t ≡ Some r)) (k < length scope) ts all (applied_found (sort_of_term w scope) ts (slice_get w.symbols f) h.0 old) (rw has_in_term-App at e);
  })

  abbrev Below : Form → Type 0
  Below a = (scope : List ℕ) (k : ℕ) → is_sorted w scope a ≡ true → has_variable k a ≡ true → k < length scope

  at_scope : (scope : List ℕ) (k : ℕ) (as_ : List Form) → AllByRecursion Below as_ → AllByRecursion (λ a. is_sorted w scope a ≡ true → has_variable k a ≡ true → k < length scope) as_
  at_scope scope k [] all = tt
  at_scope scope k (a ∷ as_) all = (all.0 scope k, at_scope scope k as_ all.1)

  one_less : (q k : ℕ) (scope : List ℕ) → k + 1 < length (q ∷ scope) → k < length scope
  one_less q k scope h = omega arith

  pub below : (a : Form) → Below a
  below = form_induction Below (record {
    atom = λ p ts scope k e h.
        one_of (has_in_term k) (λ (t : Term). (r : ℕ) × (sort_of_term w scope t ≡ Some r)) (k < length scope) ts (of_all _ ts (term_below scope k)) (holds_found (sort_of_term w scope) ts (slice_get w.symbols p) (rw is_sorted-Atom at e)) (rw has_variable-Atom at h);
    eq = λ l r scope k e h.
        let found = one_found (sort_of_term w scope l) (sort_of_term w scope r) (rw is_sorted-Eq at e) in
        elim (either (has_in_term k l) (has_in_term k r) (rw has_variable-Eq at h)) [
          | inl here ↦ term_below scope k l found.0 here
          | inr there ↦ term_below scope k r found.1 there
        ];
    not = λ a ih scope k e h. ih scope k (rw is_sorted-Not at e) (rw has_variable-Not at h);
    and = λ as_ all scope k e h. one_of (has_variable k) (λ (a : Form). is_sorted w scope a ≡ true) (k < length scope) as_ (at_scope scope k as_ all) (each_true (is_sorted w scope) as_ (rw is_sorted-And at e)) (rw has_variable-And at h);
    or = λ as_ all scope k e h. one_of (has_variable k) (λ (a : Form). is_sorted w scope a ≡ true) (k < length scope) as_ (at_scope scope k as_ all) (each_true (is_sorted w scope) as_ (rw is_sorted-Or at e)) (rw has_variable-Or at h);
    imp = λ a b ih jh scope k e h.
        let parts = both (is_sorted w scope a) (is_sorted w scope b) (rw is_sorted-Imp at e) in
        elim (either (has_variable k a) (has_variable k b) (rw has_variable-Imp at h)) [
          | inl here ↦ ih scope k parts.0 here
          | inr there ↦ jh scope k parts.1 there
        ];
    iff = λ a b ih jh scope k e h.
        let parts = both (is_sorted w scope a) (is_sorted w scope b) (rw is_sorted-Iff at e) in
        elim (either (has_variable k a) (has_variable k b) (rw has_variable-Iff at h)) [
          | inl here ↦ ih scope k parts.0 here
          | inr there ↦ jh scope k parts.1 there
        ];
    all = λ q a ih scope k e h.
        let parts = both (nat_lt q (length w.sorts)) (is_sorted w (q ∷ scope) a) (rw is_sorted-All at e) in
        one_less q k scope (ih (q ∷ scope) (k + 1) parts.1 (rw has_variable-All at h));
    ex = λ q a ih scope k e h.
        let parts = both (nat_lt q (length w.sorts)) (is_sorted w (q ∷ scope) a) (rw is_sorted-Ex at e) in
        one_less q k scope (ih (q ∷ scope) (k + 1) parts.1 (rw has_variable-Ex at h));
  })

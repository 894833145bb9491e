-- Functions that take the places of existential variables: new ones, and formulas that lack a symbol.
use Rattle.std.specs.Prelude.{ℕ, suc, ◌≡◌, ◌+◌, ◌<◌, ◌≤◌, ◌==◌, true, false, nat_eq, List, [], ◌∷◌, ◌++◌, length, map, Option, Some, None, slice_get, refl}
use Rattle.std.specs.List.{AllByRecursion as Each, IsDistinct, list_any}
use Rattle.std.proofs.Common.{◌∙◌, ◌⊎◌, inl, inr, arith}
use Rattle.std.proofs.lemmas.Bool.Decides.{nat_tests}
use Rattle.std.proofs.lemmas.Map.Keys.{IsDistinct-cons}
use Rattle.fof_terms.specs.declared.term.Term.{Term}
use Rattle.fof_terms.specs.declared.form.Form.{Form}
use Rattle.fof_terms.specs.declared.signature.Symbol.{Symbol}
use Rattle.fof_terms.specs.Occurs.{occurs_in, occurs_in_term}
use Rattle.fof_terms.proofs.OccursFacts.{occurs_in_term-Var, occurs_in_term-App, occurs_in-Atom, occurs_in-Eq, occurs_in-Not, occurs_in-And, occurs_in-Or, occurs_in-Imp, occurs_in-Iff, occurs_in-All, occurs_in-Ex}
use Rattle.fof_terms.specs.Sorts.{applied, holds_of, sort_of_term, is_sorted}
use Rattle.fof_terms.specs.Vocabulary.{Vocabulary}
use Rattle.fof_terms.proofs.Induction.{term_induction, form_induction}
use Rattle.fof_terms.proofs.LiftingLaws.{both, applied_found, holds_found, one_found, each_true}
use Rattle.fof_terms.proofs.SortsFacts.{sort_of_term-App, is_sorted-Atom, is_sorted-Eq, is_sorted-Not, is_sorted-And, is_sorted-Or, is_sorted-Imp, is_sorted-Iff, is_sorted-All, is_sorted-Ex}
use Rattle.std.proofs.lemmas.Option.{slice_get_within}
use Rattle.skolem_fresh.specs.declared.just.Use.{Use}
use Rattle.skolem_fresh.specs.Uses.{functions_of}
use Rattle.skolem_fresh.proofs.Distinct.{distinct_none}
use Rattle.skolem_fresh.proofs.Entering.{both_false}
use Rattle.skolem_proofs.specs.Choosing.{AreOthers}
use Rattle.skolem_proofs.proofs.Lacking.{none_has}
use Rattle.step_clauses.specs.declared.existentials.Existential.{Existential}
use Rattle.step_clauses.specs.Skolems.{skolems_from, use_of}
use Rattle.input_proofs.proofs.Passed.{IsOutside}

-- the functions of these existential quantifiers, numbered from `next` on
abbrev pub uses_from : ℕ → List Existential → List Use
uses_from next es = map use_of (skolems_from next es)

-- what holds of each number from `next` on
pub each_function : (P : ℕ → Type 0) (next : ℕ) (es : List Existential) → ((k : ℕ) → next ≤ k → P k) → Each (λ (u : Use). P u.function) (uses_from next es)
each_function P next [] h = tt
each_function P next (e ∷ es) h = (h next (omega arith), each_function P (next + 1) es (λ k le. h k (omega arith)))

different : (k n : ℕ) → (k < n) ⊎ (n < k) → (n == k) ≡ false
different k n h = grind (arith, nat_tests)

apart : (n m : ℕ) (es : List Existential) → n < m → Each (λ y. nat_eq n y ≡ false) (functions_of (uses_from m es))
apart n m [] lt = tt
apart n m (e ∷ es) lt = (different m n (inr lt), apart n (m + 1) es (omega arith))

pub distinct_functions : (next : ℕ) (es : List Existential) → IsDistinct nat_eq (functions_of (uses_from next es))
distinct_functions next [] = distinct_none
distinct_functions next (e ∷ es) = IsDistinct-cons nat_eq next (functions_of (uses_from (next + 1) es)) (apart next (next + 1) es (omega arith)) (distinct_functions (next + 1) es)

pub others_outside : (k next : ℕ) (es : List Existential) → IsOutside next (next + length es) k → AreOthers k (uses_from next es)
others_outside k next [] h = tt
others_outside k next (e ∷ es) h = (different k next (not_here h), others_outside k (next + 1) es (further h)) where
  not_here : IsOutside next (next + suc (length es)) k → (k < next) ⊎ (next < k)
  not_here (inl lt) = inl lt
  not_here (inr le) = inr (omega arith)

  further : IsOutside next (next + suc (length es)) k → IsOutside (next + 1) (next + 1 + length es) k
  further (inl lt) = inl (omega arith)
  further (inr le) = inr (omega arith)

-- A well-sorted formula has none of the symbols that the vocabulary lacks.
module _ (v : Vocabulary) (k : ℕ) (new : length v.symbols ≤ k) where
  other_symbol : (f : ℕ) (s : Symbol) → slice_get v.symbols f ≡ Some s → (f == k) ≡ false
  other_symbol f s e = let lt = slice_get_within v.symbols f s e in different k f (inr (omega arith))

  known_function : (r : Option Symbol) (found : List (Option ℕ)) (s : ℕ) → applied r found ≡ Some s → (symbol : Symbol) × (r ≡ Some symbol)
  known_function None found s e = cc
  known_function (Some symbol) found s e = (symbol, refl)

  known_predicate : (r : Option Symbol) (found : List (Option ℕ)) → holds_of r found ≡ true → (symbol : Symbol) × (r ≡ Some symbol)
  known_predicate None found e = cc
  known_predicate (Some symbol) found e = (symbol, refl)

  abbrev TermLacks : List ℕ → Term → Type 0
  TermLacks scope t = (s : ℕ) × (sort_of_term v scope t ≡ Some s) → occurs_in_term k t ≡ false

  terms_lack : (scope : List ℕ) (ts : List Term) → Each (TermLacks scope) ts → Each (λ (t : Term). (s : ℕ) × (sort_of_term v scope t ≡ Some s)) ts → list_any (occurs_in_term k) ts ≡ false
  terms_lack scope [] all h = refl
  terms_lack scope (t ∷ ts) all h = both_false (occurs_in_term k t) (list_any (occurs_in_term k) ts) (all.0 h.0) (terms_lack scope ts all.1 h.1)

  each_term : (scope : List ℕ) (ts : List Term) → ((t : Term) → TermLacks scope t) → Each (TermLacks scope) ts
  each_term scope [] h = tt
  each_term scope (t ∷ ts) h = (h t, each_term scope ts h)

  term_lacks : (scope : List ℕ) (t : Term) → TermLacks scope t
  term_lacks scope = term_induction (TermLacks scope) (record {
    var = λ j h. occurs_in_term-Var k j;
    app = λ f ts all h.
        let old : applied (slice_get v.symbols f) (map (sort_of_term v scope) ts) ≡ Some h.0 = rw sort_of_term-App at h.1 in
        let symbol = known_function (slice_get v.symbols f) (map (sort_of_term v scope) ts) h.0 old in
        let args = terms_lack scope ts all (applied_found (sort_of_term v scope) ts (slice_get v.symbols f) h.0 old) in
        occurs_in_term-App k f ts ∙ both_false (f == k) (list_any (occurs_in_term k) ts) (other_symbol f symbol.0 symbol.1) args;
  })

  abbrev Lacks : Form → Type 0
  Lacks a = (scope : List ℕ) → is_sorted v scope a ≡ true → occurs_in k a ≡ false

  all_of : (scope : List ℕ) (as_ : List Form) → Each Lacks as_ → Each (λ (a : Form). is_sorted v scope a ≡ true) as_ → Each (λ (a : Form). occurs_in k a ≡ false) as_
  all_of scope [] all h = tt
  all_of scope (a ∷ as_) all h = (all.0 scope h.0, all_of scope as_ all.1 h.1)

  pub sorted_lacks : (a : Form) → Lacks a
  sorted_lacks = form_induction Lacks (record {
    atom = λ p ts scope e.
        let old : holds_of (slice_get v.symbols p) (map (sort_of_term v scope) ts) ≡ true = rw is_sorted-Atom at e in
        let symbol = known_predicate (slice_get v.symbols p) (map (sort_of_term v scope) ts) old in
        let args = terms_lack scope ts (each_term scope ts (term_lacks scope)) (holds_found (sort_of_term v scope) ts (slice_get v.symbols p) old) in
        occurs_in-Atom k p ts ∙ both_false (p == k) (list_any (occurs_in_term k) ts) (other_symbol p symbol.0 symbol.1) args;
    eq = λ l r scope e.
        let found = one_found (sort_of_term v scope l) (sort_of_term v scope r) (rw is_sorted-Eq at e) in
        occurs_in-Eq k l r ∙ both_false (occurs_in_term k l) (occurs_in_term k r) (term_lacks scope l found.0) (term_lacks scope r found.1);
    not = λ a ih scope e. occurs_in-Not k a ∙ ih scope (rw is_sorted-Not at e);
    and = λ as_ all scope e. occurs_in-And k as_ ∙ none_has (occurs_in k) as_ (all_of scope as_ all (each_true (is_sorted v scope) as_ (rw is_sorted-And at e)));
    or = λ as_ all scope e. occurs_in-Or k as_ ∙ none_has (occurs_in k) as_ (all_of scope as_ all (each_true (is_sorted v scope) as_ (rw is_sorted-Or at e)));
    imp = λ a b ih jh scope e.
        let parts = both (is_sorted v scope a) (is_sorted v scope b) (rw is_sorted-Imp at e) in
        occurs_in-Imp k a b ∙ both_false (occurs_in k a) (occurs_in k b) (ih scope parts.0) (jh scope parts.1);
    iff = λ a b ih jh scope e.
        let parts = both (is_sorted v scope a) (is_sorted v scope b) (rw is_sorted-Iff at e) in
        occurs_in-Iff k a b ∙ both_false (occurs_in k a) (occurs_in k b) (ih scope parts.0) (jh scope parts.1);
    all = λ s a ih scope e. occurs_in-All k s a ∙ ih (s ∷ scope) (both _ _ (rw is_sorted-All at e)).1;
    ex = λ s a ih scope e. occurs_in-Ex k s a ∙ ih (s ∷ scope) (both _ _ (rw is_sorted-Ex at e)).1;
  })

-- What a formula over other names has: the same sorts and the same symbols.
use Rattle.std.proofs.Common.{ℕ, ◌≡◌, ◌+◌, ◌-◌, ◌<◌, ◌||◌, ◌&&◌, ◌==◌, Bool, true, false, List, [], ◌∷◌, ◌++◌, map, length, nat_eq, nat_lt, arith, zero, suc, refl, sym, ap, ◌∙◌, inl, inr, add-one, slice_get}
use Rattle.std.specs.List.{list_any, list_all, AllByRecursion}
use Rattle.std.proofs.lemmas.Simd.{map-map}
use Rattle.std.proofs.lemmas.List.Folds.{list_all-map}
use Rattle.std.proofs.lemmas.Bool.{lt-ltb, le-ltb}
use Rattle.fof_terms.specs.Vocabulary.{Vocabulary}
use Rattle.fof_terms.proofs.LiftingLaws.{both, below_or_above}
use Rattle.fof_terms.proofs.Induction.{term_induction, form_induction}
use Rattle.fof_terms.specs.Occurs.{occurs_in, occurs_in_term}
use Rattle.fof_terms.proofs.OccursFacts.{list_any-map, occurs_in_term-Var, occurs_in_term-App, occurs_in-Atom, occurs_in-Eq, occurs_in-Not, occurs_in-And, occurs_in-Or, occurs_in-Imp, occurs_in-Iff, occurs_in-All, occurs_in-Ex}
use Rattle.fof_terms.specs.Sorts.{applied, holds_of, sort_of_term, is_sorted}
use Rattle.fof_terms.proofs.SortsFacts.{sort_of_term-Var, sort_of_term-App, is_sorted-Atom, is_sorted-Eq, is_sorted-Not, is_sorted-And, is_sorted-Or, is_sorted-Imp, is_sorted-Iff, is_sorted-All, is_sorted-Ex}
use Rattle.fof_terms.specs.declared.term.Term.{Term, Var}
use Rattle.fof_terms.specs.declared.form.Form.{Form}
use Rattle.split_defs.specs.DefinitionRule.{IsAmong}
use Rattle.split_defs.specs.code.Renaming.{argument, renamed, renamed_term, speaks, speaks_in_term}
use Rattle.split_defs.proofs.RenamingFacts.{renamed_term-Var, renamed_term-App, renamed-Atom, renamed-Eq, renamed-Not, renamed-And, renamed-Or, renamed-Imp, renamed-Iff, renamed-All, renamed-Ex, speaks_in_term-Var, speaks_in_term-App, speaks-Atom, speaks-Eq, speaks-Not, speaks-And, speaks-Or, speaks-Imp, speaks-Iff, speaks-All, speaks-Ex}

-- a place before what comes between, and one behind it
place_before : (front back back' : List ℕ) (k : ℕ) → k < length front → slice_get (front ++ back) k ≡ slice_get (front ++ back') k
place_before [] back back' k h = absurd (omega arith)
place_before (x ∷ front) back back' zero h = refl
place_before (x ∷ front) back back' (suc k) h = place_before front back back' k (omega arith)

place_behind : (front back : List ℕ) (k j : ℕ) → j ≡ k + length front → slice_get (front ++ back) j ≡ slice_get back k
place_behind [] back k j e = let same : j ≡ k = omega arith in rw same refl
place_behind (x ∷ front) back k zero e = absurd (omega arith)
place_behind (x ∷ front) back k (suc j) e = place_behind front back k j (omega arith)

agree_passing : {X Y : Type 0} (f g : X → Y) (p : X → Bool) (xs : List X) → AllByRecursion (λ x. p x ≡ true → f x ≡ g x) xs → list_all p xs ≡ true → map f xs ≡ map g xs
agree_passing f g p [] all e = refl
agree_passing f g p (x ∷ xs) all e = let parts = both (p x) (list_all p xs) e in rw (all.0 parts.0, agree_passing f g p xs all.1 parts.1) refl

true_passing : {X : Type 0} (f g : X → Bool) (p : X → Bool) (xs : List X) → AllByRecursion (λ x. p x ≡ true → f x ≡ g x) xs → list_all p xs ≡ true → list_all f xs ≡ list_all g xs
true_passing f g p [] all e = refl
true_passing f g p (x ∷ xs) all e = let parts = both (p x) (list_all p xs) e in rw (all.0 parts.0, true_passing f g p xs all.1 parts.1) refl

at_front : {X : Type 0} (P : List ℕ → X → Type 0) (xs : List X) (front : List ℕ) → AllByRecursion (λ x. (front : List ℕ) → P front x) xs → AllByRecursion (P front) xs
at_front P [] front all = tt
at_front P (x ∷ xs) front all = (all.0 front, at_front P xs front all.1)

module _ (v : Vocabulary) (xs old new : List ℕ) (fits : (k : ℕ) → IsAmong k xs → slice_get new (argument xs k) ≡ slice_get old k) where
  renamed_place : (k : ℕ) (front : List ℕ) → speaks_in_term xs (length front) (Var k) ≡ true → sort_of_term v (front ++ new) (renamed_term xs (length front) (Var k)) ≡ sort_of_term v (front ++ old) (Var k)
  renamed_place k front e =
      elim (below_or_above k (length front)) [
        | inl lt ↦ rw (renamed_term-Var, lt-ltb k (length front) lt, sort_of_term-Var, sort_of_term-Var) (place_before front new old k lt)
        | inr le ↦
            let d = length front in
            let above : nat_lt k d ≡ false = le-ltb k d le in
            let e' : (nat_lt k d || list_any (nat_eq (k - d)) xs) ≡ true = rw speaks_in_term-Var at e in
            let among : list_any (nat_eq (k - d)) xs ≡ true = rw above at e' in
            rw (renamed_term-Var, above, sort_of_term-Var, sort_of_term-Var)
            (place_behind front new (argument xs (k - d)) (argument xs (k - d) + d) refl ∙ fits (k - d) among ∙ sym (place_behind front old (k - d) k (omega arith)))
      ]

  abbrev TermSorts : Term → Type 0
  TermSorts t = (front : List ℕ) → speaks_in_term xs (length front) t ≡ true → sort_of_term v (front ++ new) (renamed_term xs (length front) t) ≡ sort_of_term v (front ++ old) t

  pub renamed_sort : (t : Term) → TermSorts t
  renamed_sort = term_induction TermSorts (record {
    var = renamed_place;
    app = λ f ts all front e.
        rw (renamed_term-App, sort_of_term-App, sort_of_term-App, map-map)
        (ap (applied (slice_get v.symbols f))
        (agree_passing (λ t. sort_of_term v (front ++ new) (renamed_term xs (length front) t)) (sort_of_term v (front ++ old)) (speaks_in_term xs (length front)) ts
        (at_front (λ front t. speaks_in_term xs (length front) t ≡ true → sort_of_term v (front ++ new) (renamed_term xs (length front) t) ≡ sort_of_term v (front ++ old) t) ts front all)
        (rw speaks_in_term-App at e)));
  })

  each_sort : (ts : List Term) (front : List ℕ) → AllByRecursion (λ t. speaks_in_term xs (length front) t ≡ true → sort_of_term v (front ++ new) (renamed_term xs (length front) t) ≡ sort_of_term v (front ++ old) t) ts
  each_sort [] front = tt
  each_sort (t ∷ ts) front = (renamed_sort t front, each_sort ts front)

  abbrev FormSorts : Form → Type 0
  FormSorts a = (front : List ℕ) → speaks xs (length front) a ≡ true → is_sorted v (front ++ new) (renamed xs (length front) a) ≡ is_sorted v (front ++ old) a

  members_sorted : (as_ : List Form) (front : List ℕ) → AllByRecursion FormSorts as_ → list_all (speaks xs (length front)) as_ ≡ true
      → list_all (λ a. is_sorted v (front ++ new) (renamed xs (length front) a)) as_ ≡ list_all (is_sorted v (front ++ old)) as_
  members_sorted as_ front all e =
      true_passing (λ a. is_sorted v (front ++ new) (renamed xs (length front) a)) (is_sorted v (front ++ old)) (speaks xs (length front)) as_
      (at_front (λ front a. speaks xs (length front) a ≡ true → is_sorted v (front ++ new) (renamed xs (length front) a) ≡ is_sorted v (front ++ old) a) as_ front all) e

  pub renamed_sorted : (a : Form) → FormSorts a
  renamed_sorted = form_induction FormSorts (record {
    atom = λ p ts front e.
        rw (renamed-Atom, is_sorted-Atom, is_sorted-Atom, map-map)
        (ap (holds_of (slice_get v.symbols p))
        (agree_passing (λ t. sort_of_term v (front ++ new) (renamed_term xs (length front) t)) (sort_of_term v (front ++ old)) (speaks_in_term xs (length front)) ts (each_sort ts front) (rw speaks-Atom at e)));
    eq = λ l r front e.
        let parts = both (speaks_in_term xs (length front) l) (speaks_in_term xs (length front) r) (rw speaks-Eq at e) in
        rw (renamed-Eq, is_sorted-Eq, is_sorted-Eq, renamed_sort l front parts.0, renamed_sort r front parts.1) refl;
    not = λ a ih front e. rw (renamed-Not, is_sorted-Not, is_sorted-Not) (ih front (rw speaks-Not at e));
    and = λ as_ all front e. rw (renamed-And, is_sorted-And, is_sorted-And, list_all-map) (members_sorted as_ front all (rw speaks-And at e));
    or = λ as_ all front e. rw (renamed-Or, is_sorted-Or, is_sorted-Or, list_all-map) (members_sorted as_ front all (rw speaks-Or at e));
    imp = λ a b ih jh front e.
        let parts = both (speaks xs (length front) a) (speaks xs (length front) b) (rw speaks-Imp at e) in
        rw (renamed-Imp, is_sorted-Imp, is_sorted-Imp, ih front parts.0, jh front parts.1) refl;
    iff = λ a b ih jh front e.
        let parts = both (speaks xs (length front) a) (speaks xs (length front) b) (rw speaks-Iff at e) in
        rw (renamed-Iff, is_sorted-Iff, is_sorted-Iff, ih front parts.0, jh front parts.1) refl;
    all = λ s a ih front e. rw (renamed-All, is_sorted-All, is_sorted-All, add-one) (ap (λ b. nat_lt s (length v.sorts) && b) (ih (s ∷ front) (rw (speaks-All, add-one) at e)));
    ex = λ s a ih front e. rw (renamed-Ex, is_sorted-Ex, is_sorted-Ex, add-one) (ap (λ b. nat_lt s (length v.sorts) && b) (ih (s ∷ front) (rw (speaks-Ex, add-one) at e)));
  })

-- Symbols.
any_same : {X : Type 0} (f g : X → Bool) (xs : List X) → AllByRecursion (λ x. f x ≡ g x) xs → list_any f xs ≡ list_any g xs
any_same f g [] e = refl
any_same f g (x ∷ xs) e = rw (e.0, any_same f g xs e.1) refl

at_depth : {X : Type 0} (P : ℕ → X → Type 0) (xs : List X) (d : ℕ) → AllByRecursion (λ x. (d : ℕ) → P d x) xs → AllByRecursion (P d) xs
at_depth P [] d all = tt
at_depth P (x ∷ xs) d all = (all.0 d, at_depth P xs d all.1)

module _ (xs : List ℕ) (k : ℕ) where
  var_occurs : (j d : ℕ) → occurs_in_term k (renamed_term xs d (Var j)) ≡ occurs_in_term k (Var j)
  var_occurs j d =
      elim (below_or_above j d) [
        | inl lt ↦ rw (renamed_term-Var, lt-ltb j d lt) refl
        | inr le ↦ rw (renamed_term-Var, le-ltb j d le, occurs_in_term-Var, occurs_in_term-Var) refl
      ]

  pub term_occurs : (t : Term) (d : ℕ) → occurs_in_term k (renamed_term xs d t) ≡ occurs_in_term k t
  term_occurs = term_induction (λ t. (d : ℕ) → occurs_in_term k (renamed_term xs d t) ≡ occurs_in_term k t) (record {
    var = var_occurs;
    app = λ f ts all d.
        rw (renamed_term-App, occurs_in_term-App, occurs_in_term-App, list_any-map)
        (ap (λ b. (f == k) || b) (any_same (λ t. occurs_in_term k (renamed_term xs d t)) (occurs_in_term k) ts (at_depth (λ d t. occurs_in_term k (renamed_term xs d t) ≡ occurs_in_term k t) ts d all)));
  })

  each_occurs : (ts : List Term) (d : ℕ) → AllByRecursion (λ t. occurs_in_term k (renamed_term xs d t) ≡ occurs_in_term k t) ts
  each_occurs [] d = tt
  each_occurs (t ∷ ts) d = (term_occurs t d, each_occurs ts d)

  members_occur : (as_ : List Form) (d : ℕ) → AllByRecursion (λ a. (d : ℕ) → occurs_in k (renamed xs d a) ≡ occurs_in k a) as_ → list_any (λ a. occurs_in k (renamed xs d a)) as_ ≡ list_any (occurs_in k) as_
  members_occur as_ d all = any_same (λ a. occurs_in k (renamed xs d a)) (occurs_in k) as_ (at_depth (λ d a. occurs_in k (renamed xs d a) ≡ occurs_in k a) as_ d all)

  pub form_occurs : (a : Form) (d : ℕ) → occurs_in k (renamed xs d a) ≡ occurs_in k a
  form_occurs = form_induction (λ a. (d : ℕ) → occurs_in k (renamed xs d a) ≡ occurs_in k a) (record {
    atom = λ p ts d.
        rw (renamed-Atom, occurs_in-Atom, occurs_in-Atom, list_any-map) (ap (λ b. (p == k) || b) (any_same (λ t. occurs_in_term k (renamed_term xs d t)) (occurs_in_term k) ts (each_occurs ts d)));
    eq = λ l r d. rw (renamed-Eq, occurs_in-Eq, occurs_in-Eq, term_occurs l d, term_occurs r d) refl;
    not = λ a ih d. rw (renamed-Not, occurs_in-Not, occurs_in-Not) (ih d);
    and = λ as_ all d. rw (renamed-And, occurs_in-And, occurs_in-And, list_any-map) (members_occur as_ d all);
    or = λ as_ all d. rw (renamed-Or, occurs_in-Or, occurs_in-Or, list_any-map) (members_occur as_ d all);
    imp = λ a b ih jh d. rw (renamed-Imp, occurs_in-Imp, occurs_in-Imp, ih d, jh d) refl;
    iff = λ a b ih jh d. rw (renamed-Iff, occurs_in-Iff, occurs_in-Iff, ih d, jh d) refl;
    all = λ s a ih d. rw (renamed-All, occurs_in-All, occurs_in-All) (ih (d + 1));
    ex = λ s a ih d. rw (renamed-Ex, occurs_in-Ex, occurs_in-Ex) (ih (d + 1));
  })

-- The sorts of a signature while the domains of a model are read.
use Rattle.std.proofs.Common.{◌≡◌, ◌≢◌, ◌⊎◌, ℕ, zero, suc, ◌+◌, ◌<◌, ◌≤◌, ◌==◌, ◌&&◌, ◌||◌, not, nat_lt, Bool, true, false, List, [], ◌∷◌, ◌++◌, length, get_or, Option, Some, None, if◌then◌else◌, refl, sym, ◌∙◌, ap, subst, append_assoc, arith, ⊎_elim, inl, inr}
use Rattle.std.specs.Prelude.{slice_get, slice_set, filter, is_some, position, drop}
use Rattle.std.specs.List.{list_any, AllByRecursion, position_or_len}
use Rattle.std.specs.Option.{option_map}
use Rattle.std.proofs.lemmas.Bool.{cases_Bool}
use Rattle.std.proofs.lemmas.Bool.Decides.{nat_tests}
use Rattle.std.proofs.lemmas.Option.{slice_get-get_or}
use Rattle.std.proofs.lemmas.List.{append-nil}
use Rattle.std.proofs.Math.ListN.{length-set}
use Rattle.std.proofs.lemmas.List.Quantifiers.{position-Some}
use Rattle.std.proofs.Common.{length-drop, nat_eq}
use Rattle.std.specs.Cmp.Lexicographic.{pointwise}
use Rattle.std.proofs.Common.{get_or-set_same, get_or-set_other}
use Rattle.fof_terms.specs.Vocabulary.{Vocabulary, found_sort}
use Rattle.fof_terms.specs.Sorts.{is_sort}
use Rattle.fi_model.specs.declared.sentence.Domain.{Domain}
use Rattle.fi_model.specs.Sentences.{Text}
use Rattle.fi_model.specs.Models.{sort_number, is_of, names, repeats, IsDomain, AreDomains}
use Rattle.fi_model.specs.Faults.{is_taken, is_wrong, first_wrong, IsDomainFault}
use Rattle.fi_model.specs.code.Slots.{open_slot, good_elements, first_empty, put, with_elements}

-- ---- choices

chosen_none : {X : Type 0} (b : Bool) (x : X) (o : Option X) → (if b then Some x else o) ≡ None → (b ≡ false) × (o ≡ None)
chosen_none true x o e = cc
chosen_none false x o e = (refl, e)

chosen_some : {X : Type 0} (b : Bool) (x y : X) → (if b then Some x else None) ≡ Some y → (b ≡ true) × (x ≡ y)
chosen_some true x y e = (refl, cc)
chosen_some false x y e = cc

unchosen : {X : Type 0} (b : Bool) (x : X) → (if b then Some x else None) ≡ None → b ≡ false
unchosen true x e = cc
unchosen false x e = refl

unchosen_other : {X : Type 0} (b : Bool) (x : X) → (if b then None else Some x) ≡ None → b ≡ true
unchosen_other true x e = refl
unchosen_other false x e = cc

chosen_other : {X : Type 0} (b : Bool) (x y : X) → (if b then None else Some x) ≡ Some y → (b ≡ false) × (x ≡ y)
chosen_other true x y e = cc
chosen_other false x y e = (refl, cc)

or_false : (a b : Bool) → (a || b) ≡ false → (a ≡ false) × (b ≡ false)
or_false true b e = cc
or_false false b e = (refl, e)

or_left : (a b : Bool) → a ≡ true → (a || b) ≡ true
or_left a b e = rw e refl

or_right : (a b : Bool) → b ≡ true → (a || b) ≡ true
or_right true b e = refl
or_right false b e = e

and_true : (a b : Bool) → (a && b) ≡ true → (a ≡ true) × (b ≡ true)
and_true true b e = (refl, e)
and_true false b e = cc

and_false : (a b : Bool) → a ≡ true → (a && b) ≡ false → b ≡ false
and_false true b e f = f
and_false false b e f = cc

not_false : (b : Bool) → not b ≡ false → b ≡ true
not_false true e = refl
not_false false e = cc

-- ---- the elements that the domains so far give a sort

abbrev pub slot_of : Vocabulary → List Domain → ℕ → List Text
slot_of v [] s = []
slot_of v (d ∷ ds) s = if is_of v s d then (names d) else slot_of v ds s

zero_of : (n : ℕ) → (n == 0) ≡ true → n ≡ 0
zero_of n e = grind (arith, nat_tests, e)

positive : (n : ℕ) → (n == 0) ≡ false → 0 < n
positive zero e = cc
positive (suc n) e = omega arith

-- no element passes where none has a place
none_passes : {X : Type 0} (p : X → Bool) (xs : List X) → length xs ≤ position_or_len p xs → (i : ℕ) (d : X) → i < length xs → p (get_or xs i d) ≡ false
none_passes p [] h i d lt = absurd (omega arith)
none_passes p (x ∷ xs) h zero d lt =
    ⊎_elim
    (λ y. let zero_is : position_or_len p (x ∷ xs) ≡ 0 = rw y refl in absurd (omega (arith, h, zero_is)))
    (λ n. n)
    (cases_Bool (p x))
none_passes p (x ∷ xs) h (suc i) d lt =
    ⊎_elim
    (λ y. let zero_is : position_or_len p (x ∷ xs) ≡ 0 = rw y refl in absurd (omega (arith, h, zero_is)))
    (λ n.
    let one_more : position_or_len p (x ∷ xs) ≡ 1 + position_or_len p xs = rw n refl in
    none_passes p xs (omega (arith, h, one_more)) i d (omega arith))
    (cases_Bool (p x))

no_position : {X : Type 0} (p : X → Bool) (xs : List X) → position p xs ≡ None → (i : ℕ) (d : X) → i < length xs → p (get_or xs i d) ≡ false
no_position p xs e i d lt = by (nat_lt (position_or_len p xs) (length xs)) refl e
  where
    by : (b : Bool) → nat_lt (position_or_len p xs) (length xs) ≡ b → (if b then Some (position_or_len p xs) else None) ≡ None → p (get_or xs i d) ≡ false
    by true is k = cc
    by false is k = none_passes p xs (grind (arith, nat_tests, is)) i d lt

module _ (v : Vocabulary) where
  wrong_parts : (before : List Domain) (d : Domain) → is_wrong v before d ≡ false → IsDomain v d × (is_taken v before (sort_number v d.sort) ≡ false)
  wrong_parts before d e =
      let one = or_false (not (is_some (sort_number v d.sort))) _ e in
      let two = or_false (is_taken v before (sort_number v d.sort)) _ one.1 in
      let three = or_false (length (names d) == 0) (repeats (names d)) two.1 in
      (record { known = not_false (is_some (sort_number v d.sort)) one.0; some = positive (length (names d)) three.0; distinct = three.1 }, two.0)

  wrong_step : (before : List Domain) (d : Domain) (ds : List Domain) → first_wrong v before (d ∷ ds) ≡ None → (is_wrong v before d ≡ false) × (first_wrong v (before ++ d ∷ []) ds ≡ None)
  wrong_step before d ds e = chosen_none (is_wrong v before d) d (first_wrong v (before ++ d ∷ []) ds) e

  -- the first that is wrong stands behind those that are not
  pub wrong_behind : (before ds es : List Domain) → first_wrong v before ds ≡ None → first_wrong v before (ds ++ es) ≡ first_wrong v (before ++ ds) es
  wrong_behind before [] es e = ap (λ (b : List Domain). first_wrong v b es) (sym (append-nil before))
  wrong_behind before (d ∷ ds) es e =
      let parts = wrong_step before d ds e in
      rw parts.0
      (wrong_behind (before ++ d ∷ []) ds es parts.1 ∙ ap (λ (b : List Domain). first_wrong v b es) (append_assoc before (d ∷ []) ds))

  pub wrong_at : (before : List Domain) (d : Domain) (rest : List Domain) → first_wrong v [] before ≡ None → is_wrong v before d ≡ true → first_wrong v [] (before ++ d ∷ rest) ≡ Some d
  wrong_at before d rest e w = wrong_behind [] before (d ∷ rest) e ∙ rw w refl

  none_wrong_more : (before : List Domain) (d : Domain) → first_wrong v [] before ≡ None → is_wrong v before d ≡ false → first_wrong v [] (before ++ d ∷ []) ≡ None
  none_wrong_more before d e w = wrong_behind [] before (d ∷ []) e ∙ rw w refl

  -- ---- those of one sort

  number_of : (s : ℕ) (d : Domain) → is_of v s d ≡ true → sort_number v d.sort ≡ Some s
  number_of s d e = at (sort_number v d.sort) e
    where
      at : (o : Option ℕ) → is_sort o s ≡ true → o ≡ Some s
      at None h = cc
      at (Some r) h = ap Some (grind (arith, nat_tests, h))

  -- none of the later ones is of a sort that is taken
  none_later : (s : ℕ) (before ds : List Domain) → first_wrong v before ds ≡ None → list_any (is_of v s) before ≡ true → filter (is_of v s) ds ≡ []
  none_later s before [] e t = refl
  none_later s before (d ∷ ds) e t =
      let parts = wrong_step before d ds e in
      let still : list_any (is_of v s) (before ++ d ∷ []) ≡ true = any_front (is_of v s) before (d ∷ []) t in
      let rest = none_later s (before ++ d ∷ []) ds parts.1 still in
      ⊎_elim
      (λ is. let taken : is_taken v before (sort_number v d.sort) ≡ true = rw (number_of s d is) t in let free = (wrong_parts before d parts.0).1 in cc)
      (λ isn. rw isn rest)
      (cases_Bool (is_of v s d))
    where
      any_front : {X : Type 0} (p : X → Bool) (xs ys : List X) → list_any p xs ≡ true → list_any p (xs ++ ys) ≡ true
      any_front p [] ys h = cc
      any_front p (x ∷ xs) ys h = ⊎_elim (λ y. or_left (p x) _ y) (λ n. or_right (p x) _ (any_front p xs ys (rw n at h))) (cases_Bool (p x))

  -- a sort with elements has exactly one domain
  one_of : (s : ℕ) (before ds : List Domain) → first_wrong v before ds ≡ None → 0 < length (slot_of v ds s) → (d : Domain) × (filter (is_of v s) ds ≡ d ∷ []) × (slot_of v ds s ≡ (names d))
  one_of s before [] e some = absurd (omega arith)
  one_of s before (d ∷ ds) e some =
      let parts = wrong_step before d ds e in
      ⊎_elim
      (λ is.
      let taken : list_any (is_of v s) (before ++ d ∷ []) ≡ true = any_last before d is in
      (d, rw (is, none_later s (before ++ d ∷ []) ds parts.1 taken) refl, rw is refl))
      (λ isn.
      let some' : 0 < length (slot_of v ds s) = rw isn at some in
      let rest = one_of s (before ++ d ∷ []) ds parts.1 some' in
      (rest.0, rw isn rest.1, rw isn rest.2))
      (cases_Bool (is_of v s d))
    where
      any_last : (xs : List Domain) (x : Domain) → is_of v s x ≡ true → list_any (is_of v s) (xs ++ x ∷ []) ≡ true
      any_last [] x h = rw h refl
      any_last (y ∷ xs) x h = or_right (is_of v s y) _ (any_last xs x h)

  -- a sort has elements where a domain is of it
  pub filled : (s : ℕ) (before ds : List Domain) → first_wrong v before ds ≡ None → list_any (is_of v s) ds ≡ true → 0 < length (slot_of v ds s)
  filled s before [] e t = cc
  filled s before (d ∷ ds) e t =
      let parts = wrong_step before d ds e in
      ⊎_elim
      (λ is. rw is ((wrong_parts before d parts.0).0.some))
      (λ isn. let t' : list_any (is_of v s) ds ≡ true = rw isn at t in rw isn (filled s (before ++ d ∷ []) ds parts.1 t'))
      (cases_Bool (is_of v s d))

  pub filled_by : (s : ℕ) (ds : List Domain) → 0 < length (slot_of v ds s) → list_any (is_of v s) ds ≡ true
  filled_by s [] some = absurd (omega arith)
  filled_by s (d ∷ ds) some =
      ⊎_elim
      (λ is. rw is refl)
      (λ isn. let some' : 0 < length (slot_of v ds s) = rw isn at some in rw isn (filled_by s ds some'))
      (cases_Bool (is_of v s d))

  all_good : (before ds : List Domain) → first_wrong v before ds ≡ None → AllByRecursion (IsDomain v) ds
  all_good before [] e = tt
  all_good before (d ∷ ds) e = let parts = wrong_step before d ds e in ((wrong_parts before d parts.0).0, all_good (before ++ d ∷ []) ds parts.1)

  slot_last_other : (s : ℕ) (ds : List Domain) (d : Domain) → is_of v s d ≡ false → slot_of v (ds ++ d ∷ []) s ≡ slot_of v ds s
  slot_last_other s [] d e = rw e refl
  slot_last_other s (x ∷ ds) d e = ap (λ (r : List Text). if is_of v s x then names x else r) (slot_last_other s ds d e)

  slot_last : (s : ℕ) (ds : List Domain) (d : Domain) → list_any (is_of v s) ds ≡ false → is_of v s d ≡ true → slot_of v (ds ++ d ∷ []) s ≡ (names d)
  slot_last s [] d n e = rw e refl
  slot_last s (x ∷ ds) d n e = let parts = or_false (is_of v s x) _ n in rw parts.0 (slot_last s ds d parts.1 e)

  -- ---- the sorts after some domains

  pub record Holds (before : List Domain) (slots : List (List Text)) : Type 0 where
    pub same : length slots ≡ length v.sorts
    pub each : (s : ℕ) → get_or slots s [] ≡ slot_of v before s
    pub good : first_wrong v [] before ≡ None

  -- the parts of a domain that is taken
  record Taken (slots : List (List Text)) (d : Domain) (new : List (List Text)) : Type 0 where
    s : ℕ
    number : sort_number v d.sort ≡ Some s
    within : s < length slots
    free : length (get_or slots s []) ≡ 0
    some : (length (names d) == 0) ≡ false
    distinct : repeats (names d) ≡ false
    is : slice_set slots s (names d) ≡ new

  taken : (slots : List (List Text)) (d : Domain) (new : List (List Text)) → with_elements v slots d ≡ Some new → Taken slots d new
  taken slots d new e = by_number (sort_number v d.sort) refl e
    where
      by_elements : (n : ℕ) → sort_number v d.sort ≡ Some n → (nat_lt n (length slots) && (length (get_or slots n []) == 0)) ≡ true → (o : Option (List Text)) → good_elements (names d) ≡ o → put slots (Some n) o ≡ Some new → Taken slots d new
      by_elements n is opened None g h = cc
      by_elements n is opened (Some es) g h =
          let parts = and_true (nat_lt n (length slots)) (length (get_or slots n []) == 0) opened in
          let good = chosen_other ((length (names d) == 0) || repeats (names d)) (names d) es g in
          let apart = or_false (length (names d) == 0) (repeats (names d)) good.0 in
          let set : slice_set slots n es ≡ new = cc in
          record {
            s = n;
            number = is;
            within = grind (arith, nat_tests, parts.0);
            free = grind (arith, nat_tests, parts.1);
            some = apart.0;
            distinct = apart.1;
            is = ap (λ (xs : List Text). slice_set slots n xs) good.1 ∙ set;
          }

      by_slot : (n : ℕ) → sort_number v d.sort ≡ Some n → (b : Bool) → (nat_lt n (length slots) && (length (get_or slots n []) == 0)) ≡ b → put slots (if b then Some n else None) (good_elements (names d)) ≡ Some new → Taken slots d new
      by_slot n is true opened h = by_elements n is opened (good_elements (names d)) refl h
      by_slot n is false opened h = cc

      by_number : (o : Option ℕ) → sort_number v d.sort ≡ o → put slots (open_slot slots o) (good_elements (names d)) ≡ Some new → Taken slots d new
      by_number None is h = cc
      by_number (Some n) is h = by_slot n is (nat_lt n (length slots) && (length (get_or slots n []) == 0)) refl h

  -- another sort than that of the domain
  other_sort : (s r : ℕ) (d : Domain) → sort_number v d.sort ≡ Some s → (r ≡ s → ⊥) → is_of v r d ≡ false
  other_sort s r d e ne = rw e (grind (arith, nat_tests, ne))

  pub own_sort : (s : ℕ) (d : Domain) → sort_number v d.sort ≡ Some s → is_of v s d ≡ true
  own_sort s d e = rw e (grind (arith, nat_tests))

  free_sort : (before : List Domain) (slots : List (List Text)) (s : ℕ) → Holds before slots → length (get_or slots s []) ≡ 0 → list_any (is_of v s) before ≡ false
  free_sort before slots s h e =
      ⊎_elim
      (λ t. let some = filled s [] before h.good t in let none : length (slot_of v before s) ≡ 0 = ap length (sym (h.each s)) ∙ e in absurd (omega arith))
      (λ n. n)
      (cases_Bool (list_any (is_of v s) before))

  not_wrong : (before : List Domain) (slots : List (List Text)) (d : Domain) (new : List (List Text)) → Holds before slots → Taken slots d new → is_wrong v before d ≡ false
  not_wrong before slots d new h t = rw (t.number, free_sort before slots t.s h t.free, t.some, t.distinct) refl

  -- after a domain that is taken
  pub holds_more : (before : List Domain) (slots : List (List Text)) (d : Domain) (new : List (List Text)) → Holds before slots → with_elements v slots d ≡ Some new → Holds (before ++ d ∷ []) new
  holds_more before slots d new h e =
      let t = taken slots d new e in
      record {
        same = ap length (sym t.is) ∙ (length-set slots t.s (names d) ∙ h.same);
        each = λ r. subst (λ (xs : List (List Text)). get_or xs r [] ≡ slot_of v (before ++ d ∷ []) r) t.is (at t r);
        good = none_wrong_more before d h.good (not_wrong before slots d new h t);
      }
    where
      equal_or_not : (a b : ℕ) → (a ≡ b) ⊎ (a ≡ b → ⊥)
      equal_or_not a b = ⊎_elim (λ y. inl (grind (arith, nat_tests, y))) (λ n. inr (λ e. let same : (a == b) ≡ true = rw e (grind (arith, nat_tests)) in cc)) (cases_Bool (a == b))

      here : (t : Taken slots d new) → get_or (slice_set slots t.s (names d)) t.s [] ≡ slot_of v (before ++ d ∷ []) t.s
      here t =
          let lt : t.s < length slots = t.within in
          rw get_or-set_same (sym (slot_last t.s before d (free_sort before slots t.s h t.free) (own_sort t.s d t.number)))

      at : (t : Taken slots d new) (r : ℕ) → get_or (slice_set slots t.s (names d)) r [] ≡ slot_of v (before ++ d ∷ []) r
      at t r =
          ⊎_elim
          (λ same. subst (λ (n : ℕ). get_or (slice_set slots t.s (names d)) n [] ≡ slot_of v (before ++ d ∷ []) n) (sym same)
          (here t))
          (λ ne. let apart : r ≢ t.s = ne in rw get_or-set_other (h.each r ∙ sym (slot_last_other r before d (other_sort t.s r d t.number ne))))
          (equal_or_not r t.s)

  -- the sort of a domain is there
  found_within : (word : Text) (n : ℕ) → found_sort v word ≡ Some n → n < length v.sorts
  found_within word n is = by (position (λ sort. pointwise nat_eq sort word) (drop 1 v.sorts)) refl is
    where
      by : (o : Option ℕ) → position (λ sort. pointwise nat_eq sort word) (drop 1 v.sorts) ≡ o → option_map (λ i. i + 1) o ≡ Some n → n < length v.sorts
      by None at k = absurd (cc)
      by (Some i) at k =
          let found = position-Some (λ sort. pointwise nat_eq sort word) (drop 1 v.sorts) i [] at in
          let same : i + 1 ≡ n = cc in
          omega (arith, found.0, same, length-drop 1 v.sorts)

  pub number_within : 0 < length v.sorts → (sort : Option Text) (n : ℕ) → sort_number v sort ≡ Some n → n < length v.sorts
  number_within some None n is = let zero_is : 0 ≡ n = cc in omega (arith, zero_is)
  number_within some (Some word) n is = found_within word n is

  -- where a domain is refused
  pub wrong_refused : (before : List Domain) (slots : List (List Text)) (d : Domain) → 0 < length v.sorts → Holds before slots → with_elements v slots d ≡ None → is_wrong v before d ≡ true
  wrong_refused before slots d some h e = by_number (sort_number v d.sort) refl e
    where
      by_elements : (n : ℕ) → sort_number v d.sort ≡ Some n → (o : Option (List Text)) → good_elements (names d) ≡ o → put slots (Some n) o ≡ None → is_wrong v before d ≡ true
      by_elements n is None g none =
          or_right (not (is_some (sort_number v d.sort))) _ (or_right (is_taken v before (sort_number v d.sort)) _ (unchosen_other ((length (names d) == 0) || repeats (names d)) (names d) g))
      by_elements n is (Some es) g none = cc

      by_slot : (n : ℕ) → sort_number v d.sort ≡ Some n → (b : Bool) → (nat_lt n (length slots) && (length (get_or slots n []) == 0)) ≡ b → put slots (if b then Some n else None) (good_elements (names d)) ≡ None → is_wrong v before d ≡ true
      by_slot n is true opened none = by_elements n is (good_elements (names d)) refl none
      by_slot n is false shut none =
          let within : n < length v.sorts = number_within some d.sort n is in
          let lt : nat_lt n (length slots) ≡ true = rw h.same (grind (arith, nat_tests, within)) in
          let full : (length (get_or slots n []) == 0) ≡ false = and_false (nat_lt n (length slots)) _ lt shut in
          let some' : 0 < length (get_or slots n []) = positive (length (get_or slots n [])) full in
          let taken : list_any (is_of v n) before ≡ true = filled_by n before (subst (λ (xs : List Text). 0 < length xs) (h.each n) some') in
          or_right (not (is_some (sort_number v d.sort))) _ (or_left (is_taken v before (sort_number v d.sort)) _ (rw is taken))

      by_number : (o : Option ℕ) → sort_number v d.sort ≡ o → put slots (open_slot slots o) (good_elements (names d)) ≡ None → is_wrong v before d ≡ true
      by_number None is none = or_left (not (is_some (sort_number v d.sort))) _ (rw is refl)
      by_number (Some n) is none = by_slot n is (nat_lt n (length slots) && (length (get_or slots n []) == 0)) refl none

  -- ---- at the end

  pub empty_first : (slots : List (List Text)) (s : ℕ) → first_empty slots ≡ Some s → (s < length slots) × (length (get_or slots s []) ≡ 0) × ((r : ℕ) → r < s → 0 < length (get_or slots r []))
  empty_first slots s e =
      let found = position-Some (λ (elements : List Text). length elements == 0) slots s [] e in
      (found.0, zero_of (length (get_or slots s [])) found.1, λ r lt. positive (length (get_or slots r [])) (found.2 r lt))

  pub none_empty : (slots : List (List Text)) → first_empty slots ≡ None → (s : ℕ) → s < length slots → 0 < length (get_or slots s [])
  none_empty slots e s lt = positive (length (get_or slots s [])) (no_position (λ (elements : List Text). length elements == 0) slots e s [] lt)

  pub are_domains : (stated : List Domain) (slots : List (List Text)) → Holds stated slots → first_empty slots ≡ None → AreDomains v stated slots
  are_domains stated slots h e = record {
    good = all_good [] stated h.good;
    each_sort = h.same;
    one = λ s lt.
        let lt' : s < length slots = omega (arith, lt, h.same) in
        let some : 0 < length (slot_of v stated s) = subst (λ (xs : List Text). 0 < length xs) (h.each s) (none_empty slots e s lt') in
        let d = one_of s [] stated h.good some in
        (d.0, d.1, slice_get-get_or slots s [] lt' ∙ ap Some (h.each s ∙ d.2));
  }

  pub domain_lacks : (stated : List Domain) (slots : List (List Text)) (s : ℕ) (name : Text) → Holds stated slots → first_empty slots ≡ Some s → slice_get v.sorts s ≡ Some name → IsDomainFault v stated name
  domain_lacks stated slots s name h e at =
      let parts = empty_first slots s e in
      inr (
        h.good,
        record {
          sort = s;
          is = at;
          lacks = rw (free_sort stated slots s h parts.1) refl;
          first = λ r lt. rw (filled_by r stated (subst (λ (xs : List Text). 0 < length xs) (h.each r) (parts.2 r lt))) refl;
        },
      )

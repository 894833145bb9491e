-- The reader of names is exact and finds each name.
use Rattle.std.proofs.Common.{◌≡◌, Bool, true, false, ℕ, zero, suc, ◌<◌, ◌≤◌, List, [], ◌∷◌, ◌++◌, length, take, drop, Option, Some, None, Ok, Err, ◌⊎◌, inl, inr, refl, sym, ◌∙◌, ap, subst, append_assoc, arith, max}
use Rattle.std.specs.Prelude.{if◌then◌else◌, ◌==◌, nat_le}
use Rattle.std.proofs.lemmas.List.{take-append-drop}
use Rattle.std.proofs.lemmas.Bool.Decides.{nat_tests}
use Rattle.std.proofs.Math.Seq.{drop-append_seam}
use Rattle.first_fault.specs.Nesting.{Nested, plain, FirstOver, here}
use Rattle.first_fault.specs.code.Reading.{Unexpected, TooDeep, Outcome, next, refuse}
use Rattle.first_fault.specs.Rules.{Rule}
use Rattle.first_fault.proofs.Exact.{Exact, Inhabited, exact_stop, exact_deep, by_next, by_end}
use Rattle.first_fault.proofs.Found.{Found}
use Rattle.first_fault.proofs.Good.{Good, always}
use Rattle.proof_log.specs.Words.{at_level}
use Rattle.proof_log.specs.code.ReadWords.{shared, begins, find, reach, found_or, name, deep_name}
use Rattle.proof_log.proofs.Spelling.{within_level, all_within, plain-on, plain-level, level-append}

-- ---- what a text and a name share

abbrev one_more : Bool → ℕ → ℕ
one_more t n = if t then suc n else 0

same_byte : (b c : ℕ) → (b == c) ≡ true → b ≡ c
same_byte b c e = grind (arith, nat_tests)

byte_itself : (b : ℕ) → (b == b) ≡ true
byte_itself b = grind (arith, nat_tests)

length_of : (xs ys : List ℕ) (n : ℕ) → (n == length ys) ≡ true → n ≡ length ys
length_of xs ys n e = grind (arith, nat_tests)

-- what is shared, and then the rest of the name
front_at : (b c n : ℕ) (text word : List ℕ) (t : Bool) → (b == c) ≡ t → take n text ++ drop n word ≡ word → take (one_more t n) (b ∷ text) ++ drop (one_more t n) (c ∷ word) ≡ c ∷ word
front_at b c n text word true e ih = ap (λ l. b ∷ l) ih ∙ ap (λ x. x ∷ word) (same_byte b c e)
front_at b c n text word false e ih = refl

front : (text word : List ℕ) → take (shared text word) text ++ drop (shared text word) word ≡ word
front text [] = refl
front [] (c ∷ word) = refl
front (b ∷ text) (c ∷ word) = front_at b c (shared text word) text word (b == c) refl (front text word)

within_at : (n k : ℕ) (t : Bool) → n ≤ k → one_more t n ≤ suc k
within_at n k true h = omega arith
within_at n k false h = omega arith

within_text : (text word : List ℕ) → shared text word ≤ length text
within_text text [] = omega arith
within_text [] (c ∷ word) = omega arith
within_text (b ∷ text) (c ∷ word) = within_at (shared text word) (length text) (b == c) (within_text text word)

begins_at : (b c n : ℕ) (text word : List ℕ) (t : Bool) → (b == c) ≡ t → (n ≡ length word → text ≡ word ++ drop (length word) text) → one_more t n ≡ suc (length word) → b ∷ text ≡ (c ∷ word) ++ drop (length word) text
begins_at b c n text word true e ih h = ap (λ l. b ∷ l) (ih (omega arith)) ∙ ap (λ x. x ∷ (word ++ drop (length word) text)) (same_byte b c e)
begins_at b c n text word false e ih h = absurd (omega arith)

begins_is : (text word : List ℕ) → shared text word ≡ length word → text ≡ word ++ drop (length word) text
begins_is text [] h = refl
begins_is [] (c ∷ word) h = absurd (omega arith)
begins_is (b ∷ text) (c ∷ word) h = begins_at b c (shared text word) text word (b == c) refl (begins_is text word) h

-- ---- another text that goes on with the same byte

none_at : (t : Bool) (n k : ℕ) → one_more t n ≤ 0 → one_more t k ≡ 0
none_at true n k h = absurd (omega arith)
none_at false n k h = refl

none_shared : (b : ℕ) (text other word : List ℕ) → shared (b ∷ text) word ≤ 0 → shared (b ∷ other) word ≡ 0
none_shared b text other [] h = refl
none_shared b text other (c ∷ word) h = none_at (b == c) (shared text word) (shared other word) h

none_next : (text other word : List ℕ) → shared text word ≤ 0 → next other ≡ next text → shared other word ≡ 0
none_next text other [] h e = refl
none_next [] other (c ∷ word) h e = by_end (λ o. shared o (c ∷ word) ≡ 0) refl other e
none_next (b ∷ text) other (c ∷ word) h e = by_next b (λ o. shared o (c ∷ word) ≡ 0) (λ us. none_shared b text us (c ∷ word) h) other e

same_at : (t : Bool) (n k m : ℕ) → one_more t n ≤ suc m → (n ≤ m → k ≡ n) → one_more t k ≡ one_more t n
same_at true n k m h ih = ap suc (ih (omega arith))
same_at false n k m h ih = refl

same_shared : (n : ℕ) (text other word : List ℕ) → shared text word ≤ n → n ≤ length text → next other ≡ next (drop n text) → shared (take n text ++ other) word ≡ shared text word
same_shared n text other [] h le e = refl
same_shared zero text other (c ∷ word) h le e = let none : shared text (c ∷ word) ≡ 0 = omega arith in none_next text other (c ∷ word) h e ∙ sym none
same_shared (suc n) [] other (c ∷ word) h le e = absurd (omega arith)
same_shared (suc n) (b ∷ text) other (c ∷ word) h le e =
    same_at (b == c) (shared text word) (shared (take n text ++ other) word) n h (λ l. same_shared n text other word l (omega arith) e)

max_at : (a b : ℕ) (t : Bool) → nat_le b a ≡ t → (max a b ≡ a) ⊎ (max a b ≡ b)
max_at a b true e = inl (let le : b ≤ a = grind (arith, nat_tests) in omega arith)
max_at a b false e = inr (let lt : a < b = grind (arith, nat_tests) in omega arith)

drop_front : (n : ℕ) (text other : List ℕ) → n ≤ length text → drop n (take n text ++ other) ≡ other
drop_front zero text other h = refl
drop_front (suc n) [] other h = absurd (omega arith)
drop_front (suc n) (b ∷ text) other h = drop_front n text other (omega arith)

module _ {W : Type 0} (spell : W → List ℕ) where
  if_same : (table : List W) (w : W) (text other : List ℕ) (a b : Bool) → a ≡ b → find spell table other ≡ find spell table text → (if a then Some w else find spell table other) ≡ (if b then Some w else find spell table text)
  if_same table w text other a b e k = ap (λ t. if t then Some w else find spell table other) e ∙ ap (λ o. if b then Some w else o) k

  find_same : (table : List W) (n : ℕ) (text other : List ℕ) → reach spell table text ≤ n → n ≤ length text → next other ≡ next (drop n text) → find spell table (take n text ++ other) ≡ find spell table text
  find_same [] n text other h le e = refl
  find_same (w ∷ table) n text other h le e =
      let one : shared (take n text ++ other) (spell w) ≡ shared text (spell w) = same_shared n text other (spell w) (omega arith) le e in
      if_same table w text (take n text ++ other) (begins (take n text ++ other) (spell w)) (begins text (spell w)) (ap (λ k. k == length (spell w)) one) (find_same table n text other (omega arith) le e)

  reach_same : (table : List W) (n : ℕ) (text other : List ℕ) → reach spell table text ≤ n → n ≤ length text → next other ≡ next (drop n text) → reach spell table (take n text ++ other) ≡ reach spell table text
  reach_same [] n text other h le e = refl
  reach_same (w ∷ table) n text other h le e =
      let one : shared (take n text ++ other) (spell w) ≡ shared text (spell w) = same_shared n text other (spell w) (omega arith) le e in
      ap (λ k. max k (reach spell table (take n text ++ other))) one ∙ ap (λ k. max (shared text (spell w)) k) (reach_same table n text other (omega arith) le e)

  reach_within : (table : List W) (text : List ℕ) → reach spell table text ≤ length text
  reach_within [] text = omega arith
  reach_within (w ∷ table) text = omega (arith, within_text text (spell w), reach_within table text)

  -- one of the names goes on behind what the text begins with
  abbrev GoesOn : ℕ → List ℕ → Type 0
  GoesOn n text = (w : W) × (take n text ++ drop n (spell w) ≡ spell w)

  goes_max : (n k m : ℕ) (text : List ℕ) → (m ≡ n) ⊎ (m ≡ k) → GoesOn n text → GoesOn k text → GoesOn m text
  goes_max n k m text (inl e) one two = subst (λ x. GoesOn x text) (sym e) one
  goes_max n k m text (inr e) one two = subst (λ x. GoesOn x text) (sym e) two

  goes_on : W → (table : List W) (text : List ℕ) → GoesOn (reach spell table text) text
  goes_on some [] text = (some, refl)
  goes_on some (w ∷ table) text =
      goes_max (shared text (spell w)) (reach spell table text) (max (shared text (spell w)) (reach spell table text)) text
      (max_at (shared text (spell w)) (reach spell table text) (nat_le (reach spell table text) (shared text (spell w))) refl) (w, front text (spell w)) (goes_on some table text)

  found_at : (table : List W) (v w : W) (text : List ℕ) (t : Bool) → begins text (spell w) ≡ t → (if t then Some w else find spell table text) ≡ Some v → (find spell table text ≡ Some v → begins text (spell v) ≡ true) → begins text (spell v) ≡ true
  found_at table v w text true e h ih = let same : w ≡ v = cc in ap (λ x. begins text (spell x)) (sym same) ∙ e
  found_at table v w text false e h ih = ih h

  found_begins : (table : List W) (v : W) (text : List ℕ) → find spell table text ≡ Some v → begins text (spell v) ≡ true
  found_begins [] v text h = cc
  found_begins (w ∷ table) v text h = found_at table v w text (begins text (spell w)) refl h (found_begins table v text)

  -- ---- the reader

  abbrev pub Named : ℕ → Rule ℕ W
  Named d w ts rest = ts ≡ at_level d (spell w) ++ rest

  module _ (table : List W) (some : W) (found_all : (w : W) (r : List ℕ) → find spell table (spell w ++ r) ≡ Some w) (limit d : ℕ) where
    name_at : (text : List ℕ) (o : Option W) → find spell table text ≡ o → name spell table text ≡ found_or spell (reach spell table text) o text
    unfolding name
    name_at text o e = ap (λ x. found_or spell (reach spell table text) x text) e

    pub read_name : (w : W) (r : List ℕ) → name spell table (spell w ++ r) ≡ Ok (w, r)
    read_name w r = name_at (spell w ++ r) (Some w) (found_all w r) ∙ ap (λ l. Ok (w, l)) (drop-append_seam (spell w) r)

    fails : (text other : List ℕ) → find spell table text ≡ None → next other ≡ next (drop (reach spell table text) text) → name spell table (take (reach spell table text) text ++ other) ≡ Err (Unexpected, other)
    fails text other e k =
        let n = reach spell table text in
        let le : n ≤ length text = reach_within table text in
        let t = take (reach spell table text) text ++ other in
        name_at t None (find_same table n text other (omega arith) le k ∙ e)
        ∙ ap (λ m. Err (Unexpected, drop m t)) (reach_same table n text other (omega arith) le k)
        ∙ ap (λ l. Err (Unexpected, l)) (drop_front n text other le)

    exact_some : (fits : d ≤ limit) (text : List ℕ) (w : W) → find spell table text ≡ Some w → Exact (name spell table) (Named d) limit text (Ok (w, drop (length (spell w)) text))
    exact_some fits text w e = record {
      front = at_level d (spell w);
      within = all_within limit d fits (spell w);
      text = begins_is text (spell w) (length_of text (spell w) (shared text (spell w)) (found_begins table w text e)) ∙ ap (λ l. l ++ drop (length (spell w)) text) (sym (plain-level d (spell w)));
      spells = λ more. refl;
      again = λ other k. ap (λ l. name spell table (l ++ other)) (plain-level d (spell w)) ∙ read_name w other;
    }

    exact_none : (fits : d ≤ limit) (text : List ℕ) → find spell table text ≡ None → Exact (name spell table) (Named d) limit text (Err (Unexpected, drop (reach spell table text) text))
    exact_none fits text e =
        let w = goes_on some table text in record {
          front = at_level d (take (reach spell table text) text);
          within = all_within limit d fits (take (reach spell table text) text);
          text = sym (take-append-drop (reach spell table text) text) ∙ ap (λ l. l ++ drop (reach spell table text) text) (sym (plain-level d (take (reach spell table text) text)));
          value = w.0;
          on = λ more. at_level d (drop (reach spell table text) (spell w.0)) ++ more;
          spells = λ more. sym (append_assoc (at_level d (take (reach spell table text) text)) (at_level d (drop (reach spell table text) (spell w.0))) more)
              ∙ ap (λ l. l ++ more) (sym (level-append d (take (reach spell table text) text) (drop (reach spell table text) (spell w.0))) ∙ ap (at_level d) w.1);
          over = tt;
          again = λ other k. ap (λ l. name spell table (l ++ other)) (plain-level d (take (reach spell table text) text)) ∙ fails text other e k;
        }

    exact_by : (fits : d ≤ limit) (text : List ℕ) (o : Option W) → find spell table text ≡ o → Exact (name spell table) (Named d) limit text (found_or spell (reach spell table text) o text)
    exact_by fits text None e = exact_none fits text e
    exact_by fits text (Some w) e = exact_some fits text w e

    some_name : Inhabited (Named d)
    some_name = record { value = some; text = λ more. at_level d (spell some) ++ more; spells = λ more. refl }

    found_name : d ≤ limit → (w : W) (ts rest : List (Nested ℕ)) → Named d w ts rest → Found limit (name spell table) w ts rest
    found_name fits w ts rest h =
        subst (λ us. Found limit (name spell table) w us rest) (sym h) (inl (within_level limit d fits (spell w) rest, ap (name spell table) (plain-on d (spell w) rest) ∙ read_name w (plain rest)))

    pub good_name : d ≤ limit → Good limit (name spell table) (Named d) always
    unfolding name
    good_name fits = record { exact = λ ts. exact_by fits ts (find spell table ts) refl; found = λ w ts rest h e. found_name fits w ts rest h; some = some_name }

    -- ---- where it is nested too deep

    module _ (deep : limit < d) (filled : (w : W) → (b : ℕ) × (more : List ℕ) × (spell w ≡ b ∷ more)) where
      abbrev deep_at : List ℕ → Bool → Outcome ℕ W
      deep_at text t = if t then refuse text else Err (TooDeep, text)

      none_deep : (text other : List ℕ) → (reach spell table text == 0) ≡ true → next other ≡ next text → deep_name spell table other ≡ Err (Unexpected, other)
      unfolding deep_name
      none_deep text other e k =
          let zero_reach : reach spell table text ≡ 0 = grind (arith, nat_tests) in
          ap (λ n. deep_at other (n == 0)) (reach_same table 0 text other (omega arith) (omega arith) k ∙ zero_reach)

      deep_by : (b : ℕ) (text other : List ℕ) (t : Bool) → (reach spell table (b ∷ other) == 0) ≡ t → (reach spell table (b ∷ text) == 0) ≡ false → deep_at (b ∷ other) t ≡ Err (TooDeep, b ∷ other)
      deep_by b text other false h e = refl
      deep_by b text other true h e =
          let none : reach spell table (b ∷ other) ≡ 0 = grind (arith, nat_tests) in
          let same : reach spell table (b ∷ text) ≡ reach spell table (b ∷ other) = reach_same table 0 (b ∷ other) (b ∷ text) (omega arith) (omega arith) refl in
          let never : true ≡ false = ap (λ n. n == 0) (sym (same ∙ none)) ∙ e in cc

      some_deep : (b : ℕ) (text other : List ℕ) → (reach spell table (b ∷ text) == 0) ≡ false → deep_name spell table (b ∷ other) ≡ Err (TooDeep, b ∷ other)
      unfolding deep_name
      some_deep b text other e = deep_by b text other (reach spell table (b ∷ other) == 0) refl e

      no_reach : (reach spell table [] == 0) ≡ true
      no_reach = let le : reach spell table [] ≤ 0 = reach_within table [] in let none : reach spell table [] ≡ 0 = omega arith in ap (λ n. n == 0) none

      first_byte : (b : ℕ) (text : List ℕ) (n : ℕ) → 0 < n → (w : W) → take n (b ∷ text) ++ drop n (spell w) ≡ spell w → (more : List ℕ) × (spell w ≡ b ∷ more)
      first_byte b text zero pos w e = absurd (omega arith)
      first_byte b text (suc n) pos w e = (take n text ++ drop (suc n) (spell w), sym e)

      deep_token : (b : ℕ) (text : List ℕ) → (reach spell table (b ∷ text) == 0) ≡ false → (w : W) × (more : List ℕ) × (spell w ≡ b ∷ more)
      deep_token b text e =
          let w = goes_on some table (b ∷ text) in
          let pos : 0 < reach spell table (b ∷ text) = grind (arith, nat_tests) in
          let first = first_byte b text (reach spell table (b ∷ text)) pos w.0 w.1 in (w.0, first.0, first.1)

      exact_deep_by : (text : List ℕ) (t : Bool) → (reach spell table text == 0) ≡ t → Exact (deep_name spell table) (Named d) limit text (deep_at text t)
      exact_deep_by text true e = exact_stop (deep_name spell table) (Named d) limit text some_name (λ other k. none_deep text other e k)
      exact_deep_by [] false e = let never : true ≡ false = sym no_reach ∙ e in cc
      exact_deep_by (b ∷ text) false e =
          let w = deep_token b text e in
          exact_deep (deep_name spell table) (Named d) limit b d text w.0 (λ more. at_level d w.1 ++ more) deep (λ more. ap (λ l. at_level d l ++ more) (sym w.2)) (λ us. some_deep b text us e)

      find_reach_at : (table : List W) (v w : W) (text : List ℕ) (t : Bool) → (if t then Some w else find spell table text) ≡ Some v → (find spell table text ≡ Some v → shared text (spell v) ≤ reach spell table text) → shared text (spell v) ≤ max (shared text (spell w)) (reach spell table text)
      find_reach_at table v w text true h ih = let same : w ≡ v = cc in subst (λ x. shared text (spell x) ≤ max (shared text (spell w)) (reach spell table text)) same (omega arith)
      find_reach_at table v w text false h ih = let le : shared text (spell v) ≤ reach spell table text = ih h in omega arith

      find_reach : (table : List W) (v : W) (text : List ℕ) → find spell table text ≡ Some v → shared text (spell v) ≤ reach spell table text
      find_reach [] v text h = cc
      find_reach (w ∷ table) v text h = find_reach_at table v w text (begins text (spell w)) h (find_reach table v text)

      reaches : (w : W) (r : List ℕ) (b : ℕ) (more : List ℕ) → spell w ≡ b ∷ more → (reach spell table (spell w ++ r) == 0) ≡ false
      reaches w r b more e =
          let found = found_all w r in
          let whole : shared (spell w ++ r) (spell w) ≡ length (spell w) = length_of (spell w ++ r) (spell w) (shared (spell w ++ r) (spell w)) (found_begins table w (spell w ++ r) found) in
          let some_byte : length (spell w) ≡ suc (length more) = ap length e in
          let le : shared (spell w ++ r) (spell w) ≤ reach spell table (spell w ++ r) = find_reach table w (spell w ++ r) found in
          grind (arith, nat_tests)

      -- the first byte of the name is the fault
      abbrev pub Over : List (Nested ℕ) → Type 0
      Over ts = (over : List (Nested ℕ)) × FirstOver limit ts over × (deep_name spell table (plain ts) ≡ Err (TooDeep, plain over))

      pub over_name : (w : W) (ts rest : List (Nested ℕ)) → Named d w ts rest → Over ts
      over_name w ts rest h =
          let f = filled w in
          let is : ts ≡ (f.0, d) ∷ (at_level d f.1 ++ rest) = h ∙ ap (λ l. at_level d l ++ rest) f.2 in
          let some_way : (reach spell table (f.0 ∷ (f.1 ++ plain rest)) == 0) ≡ false = subst (λ l. (reach spell table (l ++ plain rest) == 0) ≡ false) f.2 (reaches w (plain rest) f.0 f.1 f.2) in
          subst Over (sym is) ((f.0, d) ∷ (at_level d f.1 ++ rest), here deep, some_deep f.0 (f.1 ++ plain rest) (plain (at_level d f.1 ++ rest)) some_way)

      pub good_deep_name : Good limit (deep_name spell table) (Named d) always
      unfolding deep_name
      good_deep_name = record { exact = λ ts. exact_deep_by ts (reach spell table ts == 0) refl; found = λ w ts rest h e. inr (over_name w ts rest h); some = some_name }

-- Prefixes that are free.
use Rattle.std.specs.Prelude.{ℕ, zero, suc, ◌≡◌, ◌<◌, ◌≤◌, ◌+◌, ◌==◌, ◌&&◌, ◌||◌, Bool, true, false, if◌then◌else◌, List, [], ◌∷◌, ◌++◌, map, max, replicate, refl, take, get_or, Some, slice_get}
use Rattle.std.specs.List.{list_any, prefix_len}
use Rattle.std.proofs.Common.{ap, sym, ◌∙◌, arith, cond, inl, inr, ◌⊎◌}
use Rattle.std.proofs.lemmas.List.Folds.{list_any-append}
use Rattle.std.proofs.lemmas.Option.{get_or_from_slice_get, slice_get_within}
use Rattle.fof_terms.proofs.Lists.{greatest_more}
use Rattle.fof_terms.specs.Lift.{greatest}
use Rattle.fof_terms.specs.Vocabulary.{Vocabulary}
use Rattle.fof_terms.specs.declared.signature.Symbol.{Symbol}
use Rattle.printed_clauses.specs.Prefixes.{Text, prefix_of, begins_with, is_taken, IsPrefix}
use Rattle.printed_clauses.specs.code.Underscores.{is_underscore, wanted}

-- A run of underscores.
step_free : (a i : Bool) (p m : ℕ) → (1 + p ≤ m → i ≡ false) → 1 + cond a (1 + p) 0 ≤ suc m → (a && i) ≡ false
step_free true i p m h le = h (omega arith)
step_free false i p m h le = refl

run_free : (m : ℕ) (rest : Text) → 1 + prefix_len is_underscore rest ≤ m → begins_with (replicate m 95) rest ≡ false
run_free zero rest le = absurd (omega arith)
run_free (suc m) [] le = refl
run_free (suc m) (r ∷ rest) le = step_free (r == 95) (begins_with (replicate m 95) rest) (prefix_len is_underscore rest) m (run_free m rest) le

step_taken : (a i : Bool) (p m : ℕ) → (m < 1 + p → i ≡ true) → suc m < 1 + cond a (1 + p) 0 → (a && i) ≡ true
step_taken true i p m h lt = h (omega arith)
step_taken false i p m h lt = absurd (omega arith)

run_taken : (m : ℕ) (rest : Text) → m < 1 + prefix_len is_underscore rest → begins_with (replicate m 95) rest ≡ true
run_taken zero rest lt = refl
run_taken (suc m) [] lt = absurd (omega arith)
run_taken (suc m) (r ∷ rest) lt = step_taken (r == 95) (begins_with (replicate m 95) rest) (prefix_len is_underscore rest) m (run_taken m rest) lt

-- A name.
free_of : (a b i : Bool) (w m : ℕ) → (w ≤ m → i ≡ false) → (if a && b then w else 0) ≤ m → (a && (b && i)) ≡ false
free_of true true i w m h le = h le
free_of true false i w m h le = refl
free_of false b i w m h le = refl

taken_of : (a b i : Bool) (w m : ℕ) → (m < w → i ≡ true) → m < (if a && b then w else 0) → (a && (b && i)) ≡ true
taken_of true true i w m h lt = h lt
taken_of true false i w m h lt = absurd (omega arith)
taken_of false b i w m h lt = absurd (omega arith)

and_false : (a : Bool) → (a && false) ≡ false
and_false true = refl
and_false false = refl

pub name_free : (m : ℕ) (name : Text) → wanted name ≤ m → begins_with (prefix_of m) name ≡ false
name_free m [] le = refl
name_free m (s ∷ []) le = and_false (s == 115)
name_free m (s ∷ k ∷ rest) le = free_of (s == 115) (k == 107) (begins_with (replicate m 95) rest) (1 + prefix_len is_underscore rest) m (run_free m rest) le

pub name_taken : (m : ℕ) (name : Text) → m < wanted name → begins_with (prefix_of m) name ≡ true
name_taken m [] lt = absurd (omega arith)
name_taken m (s ∷ []) lt = absurd (omega arith)
name_taken m (s ∷ k ∷ rest) lt = taken_of (s == 115) (k == 107) (begins_with (replicate m 95) rest) (1 + prefix_len is_underscore rest) m (run_taken m rest) lt

-- Names.
none_of : (a b : Bool) → a ≡ false → b ≡ false → (a || b) ≡ false
none_of a b e f = ap (λ (x : Bool). x || b) e ∙ f

one_of : (a b : Bool) → b ≡ true → (a || b) ≡ true
one_of true b e = refl
one_of false b e = e

first_of_two : (a b : Bool) → a ≡ true → (a || b) ≡ true
first_of_two a b e = ap (λ (x : Bool). x || b) e

pub names_free : {X : Type 0} (f : X → Text) (xs : List X) (m : ℕ) → greatest (map (λ x. wanted (f x)) xs) ≤ m → list_any (begins_with (prefix_of m)) (map f xs) ≡ false
names_free f [] m le = refl
names_free f (x ∷ xs) m le = none_of _ _ (name_free m (f x) (omega arith)) (names_free f xs m (omega arith))

module _ {X : Type 0} (f : X → Text) (x : X) (xs : List X) (m : ℕ) where
  one_taken : (m < greatest (map (λ y. wanted (f y)) xs) → list_any (begins_with (prefix_of m)) (map f xs) ≡ true) → m < greatest (map (λ y. wanted (f y)) (x ∷ xs)) → (wanted (f x) ≤ m) ⊎ (m < wanted (f x))
      → list_any (begins_with (prefix_of m)) (map f (x ∷ xs)) ≡ true
  one_taken rest lt (inl le) = one_of _ _ (rest (omega arith))
  one_taken rest lt (inr less) = first_of_two _ _ (name_taken m (f x) less)

le_or_lt : (a m : ℕ) → (a ≤ m) ⊎ (m < a)
le_or_lt zero m = inl (omega arith)
le_or_lt (suc a) zero = inr (omega arith)
le_or_lt (suc a) (suc m) = elim (le_or_lt a m) [ inl h ↦ inl (omega arith) | inr h ↦ inr (omega arith) ]

pub names_taken : {X : Type 0} (f : X → Text) (xs : List X) (m : ℕ) → m < greatest (map (λ x. wanted (f x)) xs) → list_any (begins_with (prefix_of m)) (map f xs) ≡ true
names_taken f [] m lt = absurd (omega arith)
names_taken f (x ∷ xs) m lt = one_taken f x xs m (names_taken f xs m) lt (le_or_lt (wanted (f x)) m)

-- A vocabulary.
names_of_map : {X : Type 0} (p : Text → Bool) (f : X → Text) (xs : List X) (ys : List Text) → list_any p (map f xs ++ ys) ≡ (list_any p (map f xs) || list_any p ys)
names_of_map p f xs ys = list_any-append p (map f xs) ys

map_same : (xs : List Text) → map (λ (x : Text). x) xs ≡ xs
map_same [] = refl
map_same (x ∷ xs) = ap (λ (ys : List Text). x ∷ ys) (map_same xs)

abbrev pub wanted_by_symbols : Vocabulary → ℕ
wanted_by_symbols v = greatest (map (λ (s : Symbol). wanted s.name) v.symbols)

abbrev pub wanted_by_sorts : Vocabulary → ℕ
wanted_by_sorts v = greatest (map wanted v.sorts)

sorts_free : (sorts : List Text) (m : ℕ) → greatest (map wanted sorts) ≤ m → list_any (begins_with (prefix_of m)) sorts ≡ false
sorts_free sorts m le = ap (list_any (begins_with (prefix_of m))) (sym (map_same sorts)) ∙ names_free (λ (x : Text). x) sorts m le

sorts_taken : (sorts : List Text) (m : ℕ) → m < greatest (map wanted sorts) → list_any (begins_with (prefix_of m)) sorts ≡ true
sorts_taken sorts m lt = ap (list_any (begins_with (prefix_of m))) (sym (map_same sorts)) ∙ names_taken (λ (x : Text). x) sorts m lt

module _ (v : Vocabulary) (n : ℕ) (is : n ≡ max (wanted_by_symbols v) (wanted_by_sorts v)) where
  free_here : is_taken v (prefix_of n) ≡ false
  free_here =
      list_any-append (begins_with (prefix_of n)) (map (λ (s : Symbol). s.name) v.symbols) v.sorts
      ∙ none_of _ _ (names_free (λ (s : Symbol). s.name) v.symbols n (omega arith)) (sorts_free v.sorts n (omega arith))

  taken_by : (m : ℕ) → (m < wanted_by_symbols v) ⊎ (m < wanted_by_sorts v) → is_taken v (prefix_of m) ≡ true
  taken_by m (inl lt) =
      list_any-append (begins_with (prefix_of m)) (map (λ (s : Symbol). s.name) v.symbols) v.sorts
      ∙ first_of_two _ _ (names_taken (λ (s : Symbol). s.name) v.symbols m lt)
  taken_by m (inr lt) =
      list_any-append (begins_with (prefix_of m)) (map (λ (s : Symbol). s.name) v.symbols) v.sorts ∙ one_of _ _ (sorts_taken v.sorts m lt)

  below_one : (m : ℕ) → m < n → (wanted_by_symbols v ≤ m) ⊎ (m < wanted_by_symbols v) → (m < wanted_by_symbols v) ⊎ (m < wanted_by_sorts v)
  below_one m lt (inl le) = inr (omega arith)
  below_one m lt (inr less) = inl less

  pub prefix_is : IsPrefix v n
  prefix_is = record { free = free_here; least = λ m lt. taken_by m (below_one m lt (le_or_lt (wanted_by_symbols v) m)) }

-- One name more.
pub wanted_more : {X : Type 0} (f : X → ℕ) (xs : List X) (i : ℕ) (x : X) (old new w : ℕ) → slice_get xs i ≡ Some x → old ≡ greatest (map f (take i xs)) → w ≡ f x → new ≡ max old w → new ≡ greatest (map f (take (i + 1) xs))
wanted_more {X} f xs i x old new w at so is made =
    let same : get_or xs i x ≡ x = get_or_from_slice_get xs i x x at in
    made ∙ ap (λ (n : ℕ). max n w) so ∙ ap (λ (n : ℕ). max (greatest (map f (take i xs))) n) (is ∙ ap f (sym same)) ∙ sym (greatest_more f xs i x (slice_get_within xs i x at))

-- The first place that passes a test, in a list with one element more.
use Rattle.std.proofs.Common.{◌≡◌, ℕ, ◌+◌, ◌<◌, ◌≤◌, Bool, true, false, cond, eqb, ltb, List, [], ◌∷◌, ◌++◌, length, Option, Some, None, refl, sym, ◌∙◌, ap, ⊎_elim, arith, length-append}
use Rattle.std.specs.Option.{is_some}
use Rattle.std.specs.List.{position, position_or_len}
use Rattle.std.proofs.lemmas.Bool.{cases_lt}
use Rattle.std.proofs.lemmas.Bool.Decides.{nat_tests}
use Rattle.std.proofs.lemmas.List.Folds.{position_or_len_push}
use Rattle.std.proofs.lemmas.List.Sums.{prefix_len-le-length}

-- the place, where it is in the list
abbrev place : ℕ → ℕ → Option ℕ
place i n = cond (ltb i n) (Some i) None

inside : (i n : ℕ) → i < n → place i n ≡ Some i
inside i n lt = grind (arith, nat_tests)

outside : (i n : ℕ) → n ≤ i → place i n ≡ None
outside i n le = grind (arith, nat_tests)

not_new : (i n : ℕ) → i < n → (c : Bool) → cond (eqb i n) (n + cond c 0 1) i ≡ i
not_new i n lt true = grind (arith, nat_tests)
not_new i n lt false = grind (arith, nat_tests)

at_end : (n : ℕ) (c : Bool) → cond (eqb n n) (n + cond c 0 1) n ≡ n + cond c 0 1
at_end n c = grind (arith, nat_tests)

some_inside : (i n : ℕ) → is_some (place i n) ≡ true → i < n
some_inside i n e = grind (arith, nat_tests)

none_outside : (i n : ℕ) → place i n ≡ None → n ≤ i
none_outside i n e = grind (arith, nat_tests)

module _ {X : Type 0} (p : X → Bool) (xs : List X) (y : X) where
  longer : length (xs ++ y ∷ []) ≡ length xs + 1
  longer = grind (arith, length-append xs (y ∷ []))

  least : position_or_len p xs ≤ length xs
  least = prefix_len-le-length _ xs

  kept : position_or_len p xs < length xs → position p (xs ++ y ∷ []) ≡ position p xs
  kept lt =
      let same : position_or_len p (xs ++ y ∷ []) ≡ position_or_len p xs = position_or_len_push p xs y ∙ not_new (position_or_len p xs) (length xs) lt (p y) in
      let more : position_or_len p xs < length (xs ++ y ∷ []) = omega (arith, longer) in
      ap (λ i. place i (length (xs ++ y ∷ []))) same ∙ (inside (position_or_len p xs) (length (xs ++ y ∷ [])) more ∙ sym (inside (position_or_len p xs) (length xs) lt))

  last : length xs ≤ position_or_len p xs → position p (xs ++ y ∷ []) ≡ place (length xs + cond (p y) 0 1) (length xs + 1)
  last le =
      let same : position_or_len p xs ≡ length xs = omega (arith, least) in
      let there : position_or_len p (xs ++ y ∷ []) ≡ length xs + cond (p y) 0 1 = position_or_len_push p xs y ∙ (ap (λ i. cond (eqb i (length xs)) (length xs + cond (p y) 0 1) i) same ∙ at_end (length xs) (p y)) in
      ap (λ i. place i (length (xs ++ y ∷ []))) there ∙ ap (place (length xs + cond (p y) 0 1)) longer

  -- a place that is there stays
  pub position_known : is_some (position p xs) ≡ true → position p (xs ++ y ∷ []) ≡ position p xs
  position_known e = kept (some_inside (position_or_len p xs) (length xs) e)

  -- an element that fails is no place
  pub position_missed : p y ≡ false → position p (xs ++ y ∷ []) ≡ position p xs
  position_missed e =
      ⊎_elim
      (λ lt. kept lt)
      (λ le. last le ∙ (ap (λ c. place (length xs + cond c 0 1) (length xs + 1)) e ∙ (outside (length xs + 1) (length xs + 1) (omega arith) ∙ sym (outside (position_or_len p xs) (length xs) le))))
      (cases_lt (position_or_len p xs) (length xs))

  -- an element that passes is the place, if there was none
  pub position_new : position p xs ≡ None → p y ≡ true → position p (xs ++ y ∷ []) ≡ Some (length xs)
  position_new none e =
      last (none_outside (position_or_len p xs) (length xs) none) ∙ (ap (λ c. place (length xs + cond c 0 1) (length xs + 1)) e ∙ inside_end (length xs))
    where
      inside_end : (n : ℕ) → place (n + 0) (n + 1) ≡ Some n
      inside_end n = grind (arith, nat_tests)

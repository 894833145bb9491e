-- The places of variables in an order, counted from the last.
use Rattle.std.specs.Prelude.{ℕ, zero, suc, ◌≡◌, ◌+◌, ◌-◌, ◌<◌, ◌≤◌, nat_lt, nat_eq, Bool, true, false, List, [], ◌∷◌, length, map, get_or, Some, None, position, cond, refl}
use Rattle.std.specs.List.{position_or_len, IsDistinct, AllByRecursion}
use Rattle.std.proofs.Common.{ap, sym, subst, ◌∙◌, arith, ◌⊎◌, inl, inr}
use Rattle.std.proofs.lemmas.Bool.{lt-ltb, le-ltb, eq-eqb, eqb-true, eqb-false, ne_eqb}
use Rattle.std.proofs.lemmas.List.{map-append}
use Rattle.fof_terms.proofs.LiftingLaws.{below_or_above}
use Rattle.flat_form.specs.Flat.{met, met_all, place_in, new_number, sort_of}
use Rattle.flat_form.proofs.Order.{has, has_cons, met_old, met_new, met_not, met_only}

either : (b : Bool) → (b ≡ true) ⊎ (b ≡ false)
either true = inl refl
either false = inr refl

abbrev pub place : List ℕ → ℕ → ℕ
place xs k = place_in xs (position (nat_eq k) xs)

-- by the first place at which it stands, or the length
abbrev by_first : List ℕ → ℕ → ℕ
by_first xs m = place_in xs (cond (nat_lt m (length xs)) (Some m) None)

by_near : (xs : List ℕ) (m : ℕ) → m < length xs → by_first xs m ≡ length xs - 1 - m
by_near xs m h = rw (lt-ltb m (length xs) h) refl

by_far : (xs : List ℕ) (m : ℕ) → length xs ≤ m → by_first xs m ≡ 0
by_far xs m h = rw (le-ltb m (length xs) h) refl

pub place_here : (x : ℕ) (xs : List ℕ) (k : ℕ) → nat_eq k x ≡ true → place (x ∷ xs) k ≡ length xs
place_here x xs k e =
    let first : position_or_len (nat_eq k) (x ∷ xs) ≡ 0 = rw e refl in
    let same : suc (length xs) - 1 - 0 ≡ length xs = omega arith in
    ap (by_first (x ∷ xs)) first ∙ (by_near (x ∷ xs) 0 (omega arith) ∙ same)

pub place_later : (x : ℕ) (xs : List ℕ) (k : ℕ) → nat_eq k x ≡ false → place (x ∷ xs) k ≡ place xs k
place_later x xs k e =
    let m = position_or_len (nat_eq k) xs in
    let next : position_or_len (nat_eq k) (x ∷ xs) ≡ 1 + m = rw e refl in
    ap (by_first (x ∷ xs)) next
    ∙ elim (below_or_above m (length xs)) [
      | inl h ↦
          let same : suc (length xs) - 1 - (1 + m) ≡ length xs - 1 - m = omega arith in
          by_near (x ∷ xs) (1 + m) (omega arith) ∙ (same ∙ sym (by_near xs m h))
      | inr h ↦ by_far (x ∷ xs) (1 + m) (omega arith) ∙ sym (by_far xs m h)
    ]

pub place_below : (xs : List ℕ) (k : ℕ) → has k xs ≡ true → place xs k < length xs
place_below [] k e = absurd (let never : false ≡ true = e in cc)
place_below (x ∷ xs) k e =
    elim (either (nat_eq k x)) [
      | inl h ↦ omega (arith, place_here x xs k h)
      | inr h ↦ omega (arith, place_later x xs k h, place_below xs k (has_cons k x xs h e))
    ]

-- different variables have different places
pub one_place : (xs : List ℕ) (j k : ℕ) → has j xs ≡ true → has k xs ≡ true → place xs j ≡ place xs k → j ≡ k
one_place [] j k a b e = absurd (let never : false ≡ true = a in cc)
one_place (x ∷ xs) j k a b e =
    elim (either (nat_eq j x)) [
      | inl h ↦
          elim (either (nat_eq k x)) [
            | inl g ↦ eqb-true j x h ∙ sym (eqb-true k x g)
            | inr g ↦ absurd (omega (arith, e, place_here x xs j h, place_later x xs k g, place_below xs k (has_cons k x xs g b)))
          ]
      | inr h ↦
          elim (either (nat_eq k x)) [
            | inl g ↦ absurd (omega (arith, e, place_here x xs k g, place_later x xs j h, place_below xs j (has_cons j x xs h a)))
            | inr g ↦ one_place xs j k (has_cons j x xs h a) (has_cons k x xs g b) (sym (place_later x xs j h) ∙ (e ∙ place_later x xs k g))
          ]
    ]

-- the numbers below n, from the greatest
abbrev pub down : ℕ → List ℕ
down zero = []
down (suc n) = n ∷ down n

pub length-down : (n : ℕ) → length (down n) ≡ n
length-down zero = refl
length-down (suc n) = ap suc (length-down n)

pub down_below : (n : ℕ) → AllByRecursion (λ k. k < n) (down n)
down_below zero = tt
down_below (suc n) = (omega arith, weaker n (suc n) (down n) (omega arith) (down_below n)) where
  weaker : (m n : ℕ) (ks : List ℕ) → m ≤ n → AllByRecursion (λ k. k < m) ks → AllByRecursion (λ k. k < n) ks
  weaker m n [] le all = tt
  weaker m n (k ∷ ks) le all = (omega (arith, all.0), weaker m n ks le all.1)

agree_on : {X Y : Type 0} (P : X → Type 0) (f g : X → Y) (xs : List X) → ((x : X) → P x → f x ≡ g x) → AllByRecursion P xs → map f xs ≡ map g xs
agree_on P f g [] e all = refl
agree_on P f g (x ∷ xs) e all = rw (e x all.0, agree_on P f g xs e all.1) refl

-- the places of an order, from its first variable
pub places_down : (xs : List ℕ) → IsDistinct nat_eq xs → map (place xs) xs ≡ down (length xs)
unfolding IsDistinct
places_down [] d = refl
places_down (x ∷ xs) d =
    let first : place (x ∷ xs) x ≡ length xs = place_here x xs x (eq-eqb x x refl) in
    let rest : map (place (x ∷ xs)) xs ≡ map (place xs) xs = agree_on (λ y. nat_eq x y ≡ false) (place (x ∷ xs)) (place xs) xs (λ y e. place_later x xs y (ne_eqb y x (λ s. eqb-false x y e (sym s)))) d.0 in
    rw (first, rest, places_down xs d.1) refl

-- a number below n has itself as its place among these
pub place_down : (n k : ℕ) → k < n → place (down n) k ≡ k
place_down zero k lt = absurd (omega arith)
place_down (suc n) k lt =
    elim (either (nat_eq k n)) [
      | inl h ↦ place_here n (down n) k h ∙ (length-down n ∙ sym (eqb-true k n h))
      | inr h ↦ let ne = eqb-false k n h in place_later n (down n) k h ∙ place_down n k (omega (arith, ne))
    ]

-- the sorts in order
pub sorts_down : (sorts : List ℕ) → map (sort_of sorts) (down (length sorts)) ≡ sorts
sorts_down [] = refl
sorts_down (s ∷ sorts) =
    let n = length sorts in
    let first : suc n - 1 - n ≡ 0 = omega arith in
    let head : sort_of (s ∷ sorts) n ≡ s = ap (λ i. get_or (s ∷ sorts) i 0) first in
    let rest : map (sort_of (s ∷ sorts)) (down n) ≡ map (sort_of sorts) (down n) = agree_on (λ k. k < n) (sort_of (s ∷ sorts)) (sort_of sorts) (down n) (λ k lt. let next : suc n - 1 - k ≡ suc (n - 1 - k) = omega arith in ap (λ i. get_or (s ∷ sorts) i 0) next) (down_below n) in
    rw (head, rest, sorts_down sorts) refl

-- the new number of a variable that is in the order, and of one that is beyond it
module _ (order : List ℕ) (n : ℕ) where
  pub number_near : (k : ℕ) → k < n → new_number order n k ≡ place order k
  number_near k lt = rw (lt-ltb k n lt) refl

  pub number_far : (k : ℕ) → n ≤ k → new_number order n k ≡ k - n + length order
  number_far k le = rw (le-ltb k n le) refl

pub down_numbers : (n k : ℕ) → new_number (down n) n k ≡ k
down_numbers n k =
    elim (below_or_above k n) [
      | inl h ↦ number_near (down n) n k h ∙ place_down n k h
      | inr h ↦ number_far (down n) n k h ∙ (omega (arith, length-down n))
    ]

-- The order of what has new numbers is that of the variables, with their new numbers.
module _ (order : List ℕ) (n : ℕ) (below : (q : ℕ) → has q order ≡ true → q < n) where
  new : ℕ → ℕ
  new = new_number order n

  new_below : (k : ℕ) → has k order ≡ true → new k < length order
  unfolding new
  new_below k h = omega (arith, number_near order n k (below k h), place_below order k h)

  new_one : (j k : ℕ) → has j order ≡ true → has k order ≡ true → new j ≡ new k → j ≡ k
  unfolding new
  new_one j k a b e = one_place order j k a b (sym (number_near order n j (below j a)) ∙ (e ∙ number_near order n k (below k b)))

  abbrev Among : List ℕ → Type 0
  Among seen = (q : ℕ) → has q seen ≡ true → has q order ≡ true

  same_test : (j k : ℕ) → has j order ≡ true → has k order ≡ true → nat_eq (new j) (new k) ≡ nat_eq j k
  same_test j k a b =
      elim (either (nat_eq j k)) [
        | inl h ↦ eq-eqb (new j) (new k) (ap new (eqb-true j k h)) ∙ sym h
        | inr h ↦ ne_eqb (new j) (new k) (λ e. eqb-false j k h (new_one j k a b e)) ∙ sym h
      ]

  has_first : (x : ℕ) (seen : List ℕ) → has x (x ∷ seen) ≡ true
  has_first x seen = rw (eq-eqb x x refl) refl

  has_rest : (q x : ℕ) (seen : List ℕ) → has q seen ≡ true → has q (x ∷ seen) ≡ true
  has_rest q x seen e = elim (either (nat_eq q x)) [ inl h ↦ rw h refl | inr h ↦ rw (h, e) refl ]

  has_new : (k : ℕ) (seen : List ℕ) → has k order ≡ true → Among seen → has (new k) (map new seen) ≡ has k seen
  has_new k [] a all = refl
  has_new k (x ∷ seen) a all =
      rw (same_test k x a (all x (has_first x seen)), has_new k seen a (λ q e. all q (has_rest q x seen e))) refl

  far : (k : ℕ) → n ≤ k → length order ≤ new k
  unfolding new
  far k h = omega (arith, number_far order n k h)

  met_renumbered : (seen : List ℕ) (k : ℕ) → (k < n → has k order ≡ true) → Among seen → met (length order) (map new seen) (new k) ≡ map new (met n seen k)
  met_renumbered seen k a all =
      elim (below_or_above k n) [
        | inl h ↦
            let lt : new k < length order = new_below k (a h) in
            let same = has_new k seen (a h) all in
            elim (either (has k seen)) [
              | inl e ↦ met_old (length order) (map new seen) (new k) (same ∙ e) ∙ ap (map new) (sym (met_old n seen k e))
              | inr e ↦ met_new (length order) (map new seen) (new k) lt (same ∙ e) ∙ sym (ap (map new) (met_new n seen k h e) ∙ map-append new seen (k ∷ []))
            ]
        | inr h ↦
            let le : length order ≤ new k = far k h in
            met_not (length order) (map new seen) (new k) le ∙ ap (map new) (sym (met_not n seen k h))
      ]

  among_met : (seen : List ℕ) (k : ℕ) → (k < n → has k order ≡ true) → Among seen → Among (met n seen k)
  among_met seen k here seen_in q e =
      elim (met_only n seen k q e) [
        | inl h ↦ seen_in q h
        | inr h ↦ subst (λ (j : ℕ). has j order ≡ true) (sym h.0) (here h.1)
      ]

  -- each variable that is met stays among the order
  pub all_renumbered : (seen ks : List ℕ) → ((q : ℕ) → has q (met_all n seen ks) ≡ true → has q order ≡ true) → Among seen → ((q : ℕ) → q < n → has q ks ≡ true → has q order ≡ true)
      → met_all (length order) (map (new_number order n) seen) (map (new_number order n) ks) ≡ map (new_number order n) (met_all n seen ks)
  unfolding new
  all_renumbered seen [] met_in seen_in ks_in = refl
  all_renumbered seen (k ∷ ks) met_in seen_in ks_in =
      let here = λ (lt : k < n). ks_in k lt (has_first k ks) in
      ap (λ xs. met_all (length order) xs (map (new_number order n) ks)) (met_renumbered seen k here seen_in)
      ∙ all_renumbered (met n seen k) ks met_in (λ q e. among_met seen k here seen_in q e) (λ q lt e. ks_in q lt (has_rest q k ks e))

-- From the quantifiers in their own order to those in the order of their variables, and back.
use Rattle.std.specs.Prelude.{ℕ, zero, suc, ◌≡◌, ◌+◌, ◌-◌, ◌<◌, nat_eq, Bool, true, false, List, [], ◌∷◌, length, map, get_or, slice_get, Some, refl}
use Rattle.std.specs.List.{AllByRecursion}
use Rattle.std.proofs.Common.{ap, sym, ◌∙◌, arith, ◌⊎◌, inl, inr}
use Rattle.std.proofs.lemmas.Bool.{eq-eqb, eqb-true}
use Rattle.std.proofs.lemmas.List.{length-map}
use Rattle.fof_terms.specs.declared.form.Form.{Form}
use Rattle.fof_terms.specs.Lift.{lifted}
use Rattle.fof_terms.proofs.LiftingLaws.{below_or_above}
use Rattle.clause_form.specs.Reached.{around}
use Rattle.flat_form.specs.Flat.{new_number, sort_of}
use Rattle.flat_form.specs.Renumbered.{renumbered}
use Rattle.flat_form.specs.Numbers.{listed}
use Rattle.flat_form.proofs.Order.{has, has_cons}
use Rattle.flat_form.proofs.Places.{place, place_here, place_later, place_below, number_near, number_far}
use Rattle.flat_form.proofs.Placing.{listed_near, listed_far}
use Rattle.flat_form.proofs.Renumbering.{twice, same_numbers, itself, lift_number, lift_below, lift_above, lift_is}
use Rattle.flat_proofs.specs.code.Permuting.{down}
use Rattle.flat_proofs.proofs.Permutations.{StandIn}

length_down : (n : ℕ) → length (down n) ≡ n
length_down zero = refl
length_down (suc n) = ap suc (length_down n)

down_at : (n k : ℕ) → k < n → get_or (down n) (n - 1 - k) 0 ≡ k
down_at zero k lt = absurd (omega arith)
down_at (suc n) k lt =
    elim (below_or_above k n) [
      | inl h ↦ let next : suc n - 1 - k ≡ suc (n - 1 - k) = omega arith in ap (λ i. get_or (down (suc n)) i 0) next ∙ down_at n k h
      | inr h ↦ let first : suc n - 1 - k ≡ 0 = omega arith in ap (λ i. get_or (down (suc n)) i 0) first ∙ (omega arith)
    ]

pub get_map : (f : ℕ → ℕ) (xs : List ℕ) (i : ℕ) → i < length xs → get_or (map f xs) i 0 ≡ f (get_or xs i 0)
get_map f [] i lt = absurd (omega arith)
get_map f (x ∷ xs) zero lt = refl
get_map f (x ∷ xs) (suc i) lt = get_map f xs i (omega arith)

-- the variable at a place
pub at_place : (order : List ℕ) (k : ℕ) → has k order ≡ true → get_or order (length order - 1 - place order k) 0 ≡ k
at_place [] k e = absurd (let never : false ≡ true = e in cc)
at_place (x ∷ xs) k e =
    elim (either (nat_eq k x)) [
      | inl h ↦
          let here = place_here x xs k h in
          let first : suc (length xs) - 1 - place (x ∷ xs) k ≡ 0 = omega (arith, here) in
          ap (λ i. get_or (x ∷ xs) i 0) first ∙ sym (eqb-true k x h)
      | inr h ↦
          let later = place_later x xs k h in
          let less = place_below xs k (has_cons k x xs h e) in
          let next : suc (length xs) - 1 - place (x ∷ xs) k ≡ suc (length xs - 1 - place xs k) = omega (arith, later, less) in
          ap (λ i. get_or (x ∷ xs) i 0) next ∙ at_place xs k (has_cons k x xs h e)
    ]
  where
    either : (b : Bool) → (b ≡ true) ⊎ (b ≡ false)
    either true = inl refl
    either false = inr refl

-- the sort of a variable of a scope
deep : (xs scope : List ℕ) (k : ℕ) → slice_get (around xs scope) (length xs + k) ≡ slice_get scope k
deep [] scope k = ap (slice_get scope) (let same : 0 + k ≡ k = omega arith in same)
deep (x ∷ xs) scope k = ap (slice_get (around xs (x ∷ scope))) (let same : length (x ∷ xs) + k ≡ length xs + suc k = omega arith in same) ∙ deep xs (x ∷ scope) (suc k)

pub scope_sort : (sorts v : List ℕ) (k : ℕ) → k < length sorts → slice_get (around sorts v) k ≡ Some (sort_of sorts k)
scope_sort [] v k lt = absurd (omega arith)
scope_sort (s ∷ sorts) v k lt =
    elim (below_or_above k (length sorts)) [
      | inl h ↦
          let next : suc (length sorts) - 1 - k ≡ suc (length sorts - 1 - k) = omega arith in
          scope_sort sorts (s ∷ v) k h ∙ ap Some (sym (ap (λ i. get_or (s ∷ sorts) i 0) next))
      | inr h ↦
          let last : k ≡ length sorts + 0 = omega arith in
          let first : suc (length sorts) - 1 - k ≡ 0 = omega arith in
          ap (slice_get (around sorts (s ∷ v))) last ∙ (deep sorts (s ∷ v) 0 ∙ ap Some (sym (ap (λ i. get_or (s ∷ sorts) i 0) first)))
    ]

-- variables that have the sorts that a function gives them
stand_by : (scope : List ℕ) (sort : ℕ → ℕ) (ks : List ℕ) → AllByRecursion (λ k. slice_get scope k ≡ Some (sort k)) ks → StandIn scope ks (map sort ks)
stand_by scope sort [] all = tt
stand_by scope sort (k ∷ ks) all = (all.0, stand_by scope sort ks all.1)

-- forth: at their new numbers
module _ (order : List ℕ) (n : ℕ) (in_order : (k : ℕ) → k < n → has k order ≡ true) where
  forth_number : (k : ℕ) → listed (map (new_number order n) (down n)) 0 (lift_number (length order) n k) ≡ new_number order n k
  forth_number k =
      let nums = map (new_number order n) (down n) in
      let len : length nums ≡ n = length-map (down n) (new_number order n) ∙ length_down n in
      elim (below_or_above k n) [
        | inl h ↦
            let at : length nums - 1 - k ≡ n - 1 - k = omega arith in
            ap (listed nums 0) (lift_below (length order) n k h)
            ∙ (listed_near nums 0 k (omega arith)
            ∙ (ap (λ i. get_or nums i 0) at ∙ (get_map (new_number order n) (down n) (n - 1 - k) (omega (arith, length_down n)) ∙ ap (new_number order n) (down_at n k h))))
        | inr h ↦
            let same : k + length order - length nums + 0 ≡ k - n + length order = omega arith in
            ap (listed nums 0) (lift_above (length order) n k h) ∙ (listed_far nums 0 (k + length order) (omega arith) ∙ (same ∙ sym (number_far order n k h)))
      ]

  pub forth_body : (a : Form) → renumbered (listed (map (new_number order n) (down n)) 0) 0 (lifted (length order) n a) ≡ renumbered (new_number order n) 0 a
  forth_body a =
      ap (renumbered (listed (map (new_number order n) (down n)) 0) 0) (lift_is (length order) n a)
      ∙ (twice (listed (map (new_number order n) (down n)) 0) (lift_number (length order) n) a 0 ∙ same_numbers _ _ forth_number a 0)

  back_number : (k : ℕ) → listed order 0 (lift_number n (length order) (new_number order n k)) ≡ k
  back_number k =
      elim (below_or_above k n) [
        | inl h ↦
            let near = number_near order n k h in
            let less = place_below order k (in_order k h) in
            ap (λ j. listed order 0 (lift_number n (length order) j)) near
            ∙ (ap (listed order 0) (lift_below n (length order) (place order k) less) ∙ (listed_near order 0 (place order k) less ∙ at_place order k (in_order k h)))
        | inr h ↦
            let same : k - n + length order + n - length order + 0 ≡ k = omega arith in
            ap (λ j. listed order 0 (lift_number n (length order) j)) (number_far order n k h)
            ∙ (ap (listed order 0) (lift_above n (length order) (k - n + length order) (omega arith)) ∙ (listed_far order 0 (k - n + length order + n) (omega arith) ∙ same))
      ]

  pub back_body : (a : Form) → renumbered (listed order 0) 0 (lifted n (length order) (renumbered (new_number order n) 0 a)) ≡ a
  back_body a =
      ap (renumbered (listed order 0) 0) (lift_is n (length order) (renumbered (new_number order n) 0 a) ∙ twice (lift_number n (length order)) (new_number order n) a 0)
      ∙ (twice (listed order 0) (λ k. lift_number n (length order) (new_number order n k)) a 0 ∙ itself _ back_number a 0)

either_test : (b : Bool) → (b ≡ true) ⊎ (b ≡ false)
either_test true = inl refl
either_test false = inr refl

pub first_has : (x : ℕ) (xs : List ℕ) → has x (x ∷ xs) ≡ true
first_has x xs = rw (eq-eqb x x refl) refl

pub rest_has : (q x : ℕ) (xs : List ℕ) → has q xs ≡ true → has q (x ∷ xs) ≡ true
rest_has q x xs e = elim (either_test (nat_eq q x)) [ inl h ↦ rw h refl | inr h ↦ rw (h, e) refl ]

-- the sorts
module _ (sorts order v : List ℕ) (in_order : (k : ℕ) → k < length sorts → has k order ≡ true) (below : (q : ℕ) → has q order ≡ true → q < length sorts) where
  pub back_stand : StandIn (around sorts v) order (map (sort_of sorts) order)
  back_stand = stand_by (around sorts v) (sort_of sorts) order (each order (λ q e. e)) where
    each : (ks : List ℕ) → ((q : ℕ) → has q ks ≡ true → has q order ≡ true) → AllByRecursion (λ k. slice_get (around sorts v) k ≡ Some (sort_of sorts k)) ks
    each [] h = tt
    each (k ∷ ks) h =
        (scope_sort sorts v k (below k (h k (first_has k ks))), each ks (λ q e. h q (rest_has q k ks e)))

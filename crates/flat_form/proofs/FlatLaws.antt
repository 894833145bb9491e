-- A flat form is its own flat form.
use Rattle.std.specs.Prelude.{ℕ, zero, suc, ◌≡◌, ◌+◌, ◌<◌, ◌||◌, nat_eq, Bool, true, false, List, [], ◌∷◌, ◌++◌, length, map, refl}
use Rattle.std.proofs.Common.{ap, sym, subst, ◌∙◌, arith, ◌⊎◌, inl, inr}
use Rattle.std.proofs.lemmas.Bool.{eq-eqb}
use Rattle.std.proofs.lemmas.List.{length-map, append-nil}
use Rattle.fof_terms.specs.declared.form.Form.{Form}
use Rattle.fof_terms.specs.Variables.{has_variable}
use Rattle.fof_terms.proofs.LiftingLaws.{below_or_above}
use Rattle.fof_terms.proofs.VariablesFacts.{has_variable-All}
use Rattle.clause_form.specs.ClauseView.{closed_by}
use Rattle.clause_form.specs.Norm.{norm_of}
use Rattle.flat_form.specs.Flat.{pulled, order_of, met_all, new_number, sort_of, closed_in, close_over, flattened, flat_of}
use Rattle.flat_form.specs.Renumbered.{renumbered}
use Rattle.flat_form.specs.Variables.{variables_of}
use Rattle.flat_form.proofs.Occurring.{stands_in, new_form}
use Rattle.flat_form.proofs.Order.{has, order_distinct, order_only, order_has}
use Rattle.flat_form.proofs.Own.{IsOwn, quantifier_own}
use Rattle.flat_form.proofs.OwnNorms.{own_fixed, norm_own, own_renumbered}
use Rattle.flat_form.proofs.Places.{place, down, places_down, sorts_down, number_near, down_numbers, all_renumbered}
use Rattle.flat_form.proofs.PulledFacts.{all_sorts, all_body}
use Rattle.flat_form.proofs.PulledOwn.{pulled_own, body_none, body_same, sorts_renumbered}
use Rattle.flat_form.proofs.Renumbering.{itself}

-- quantifiers over a body
pub variable_in_closed : (sorts : List ℕ) (b : Form) (k : ℕ) → has_variable k (closed_by sorts b) ≡ has_variable (k + length sorts) b
variable_in_closed [] b k = ap (λ n. has_variable n b) (let same : k ≡ k + 0 = omega arith in same)
variable_in_closed (s ∷ sorts) b k =
    has_variable-All k s (closed_by sorts b)
    ∙ (variable_in_closed sorts b (k + 1) ∙ ap (λ n. has_variable n b) (let same : k + 1 + length sorts ≡ k + suc (length sorts) = omega arith in same))

pub closed_own : (sorts : List ℕ) (b : Form) → IsOwn b → ((k : ℕ) → k < length sorts → has_variable k b ≡ true) → IsOwn (closed_by sorts b)
closed_own [] b h stand = h
closed_own (s ∷ sorts) b h stand =
    quantifier_own true s (closed_by sorts b) (closed_own sorts b h (λ k lt. stand k (omega arith))) (variable_in_closed sorts b 0 ∙ (ap (λ n. has_variable n b) (let same : 0 + length sorts ≡ length sorts = omega arith in same) ∙ stand (length sorts) (omega arith)))

pub closed_sorts : (sorts : List ℕ) (b : Form) → (pulled (closed_by sorts b)).sorts ≡ sorts ++ (pulled b).sorts
closed_sorts [] b = refl
closed_sorts (s ∷ sorts) b = all_sorts s (closed_by sorts b) ∙ ap (λ xs. s ∷ xs) (closed_sorts sorts b)

pub closed_body : (sorts : List ℕ) (b : Form) → (pulled (closed_by sorts b)).body ≡ (pulled b).body
closed_body [] b = refl
closed_body (s ∷ sorts) b = all_body s (closed_by sorts b) ∙ closed_body sorts b

below_or_same : (k n : ℕ) → k < suc n → (k < n) ⊎ (k ≡ n)
below_or_same k n lt = elim (below_or_above k n) [ inl h ↦ inl h | inr h ↦ inr (omega arith) ]

or_right : (a b : Bool) → b ≡ true → (a || b) ≡ true
or_right true b e = refl
or_right false b e = e

down_has : (n k : ℕ) → k < n → has k (down n) ≡ true
down_has zero k lt = absurd (omega arith)
down_has (suc n) k lt =
    elim (below_or_same k n lt) [
      | inl h ↦ or_right (nat_eq k n) (has k (down n)) (down_has n k h)
      | inr h ↦ rw (eq-eqb k n h) refl
    ]

-- the new numbers of an order are its places
numbers_are : (met : List ℕ) (n : ℕ) (ks : List ℕ) → ((q : ℕ) → has q ks ≡ true → q < n) → map (new_number met n) ks ≡ map (place met) ks
numbers_are met n [] below = refl
numbers_are met n (k ∷ ks) below =
    let here : has k (k ∷ ks) ≡ true = rw (eq-eqb k k refl) refl in
    rw (number_near met n k (below k here), numbers_are met n ks (λ q e. below q (or_right (nat_eq q k) (has q ks) e))) refl

-- the closing of a body
module _ (sorts : List ℕ) (b : Form) where
  -- the new numbers stand in their order
  new_order : order_of (length (order_of (length sorts) b)) (renumbered (new_number (order_of (length sorts) b) (length sorts)) 0 b) ≡ down (length (order_of (length sorts) b))
  new_order =
      let n = length sorts in
      let met = order_of n b in
      let below = λ (q : ℕ) (e : has q met ≡ true). (order_only n b q e).0 in
      ap (met_all (length met) []) (new_form (new_number met n) b 0)
      ∙ (all_renumbered met n below [] (variables_of 0 b) (λ q e. e) (λ q e. absurd (let never : false ≡ true = e in cc)) (λ q lt e. order_has n b q lt e)
      ∙ (numbers_are met n met (λ q e. below q e) ∙ places_down met (order_distinct n b)))

  -- each of them stands in the body
  pub each_stands : (k : ℕ) → k < length (order_of (length sorts) b) → has_variable k (renumbered (new_number (order_of (length sorts) b) (length sorts)) 0 b) ≡ true
  each_stands k lt =
      let n = length (order_of (length sorts) b) in
      let c = renumbered (new_number (order_of (length sorts) b) (length sorts)) 0 b in
      sym (stands_in k c) ∙ (order_only n c k (ap (has k) new_order ∙ down_has n k lt)).1

  pub closing_own : IsOwn b → IsOwn (close_over sorts b)
  closing_own h =
      let met = order_of (length sorts) b in
      closed_own (map (sort_of sorts) met) (renumbered (new_number met (length sorts)) 0 b) (own_renumbered (new_number met (length sorts)) 0 b h)
      (λ k lt. each_stands k (subst (λ n. k < n) (length-map met (sort_of sorts)) lt))

  -- what is closed so is closed again as it is
  pub closing_again : close_over (map (sort_of sorts) (order_of (length sorts) b)) (renumbered (new_number (order_of (length sorts) b) (length sorts)) 0 b) ≡ close_over sorts b
  closing_again =
      let met = order_of (length sorts) b in
      let n = length met in
      let ss = map (sort_of sorts) met in
      let c = renumbered (new_number met (length sorts)) 0 b in
      let len : length ss ≡ n = length-map met (sort_of sorts) in
      let in_order : order_of (length ss) c ≡ down (length ss) = ap (λ m. order_of m c) len ∙ (new_order ∙ ap down (sym len)) in
      ap (λ ks. closed_in ks ss c) in_order
      ∙ (ap (λ xs. closed_by xs (renumbered (new_number (down (length ss)) (length ss)) 0 c)) (sorts_down ss)
      ∙ ap (closed_by ss) (itself (new_number (down (length ss)) (length ss)) (down_numbers (length ss)) c 0))

-- of a normal form
pub flattened_own : (a : Form) → IsOwn a → IsOwn (flattened a)
flattened_own a h = closing_own (pulled a).sorts (pulled a).body (pulled_own a h)

pub flattened_again : (a : Form) → IsOwn a → flattened (flattened a) ≡ flattened a
flattened_again a h =
    let p = pulled a in
    let met = order_of (length p.sorts) p.body in
    let ss = map (sort_of p.sorts) met in
    let new = new_number met (length p.sorts) in
    let c = renumbered new 0 p.body in
    let none : (pulled c).sorts ≡ [] = sorts_renumbered new 0 p.body ∙ body_none a in
    let one : (pulled (closed_by ss c)).sorts ≡ ss = closed_sorts ss c ∙ (ap (λ xs. ss ++ xs) none ∙ append-nil ss) in
    let two : (pulled (closed_by ss c)).body ≡ c = closed_body ss c ∙ body_same c (own_renumbered new 0 p.body (pulled_own a h)) none in
    ap (λ xs. close_over xs (pulled (closed_by ss c)).body) one ∙ (ap (close_over ss) two ∙ closing_again p.sorts p.body)

pub flat_again : (a : Form) → flat_of (flat_of a) ≡ flat_of a
flat_again a =
    let h = norm_own a true in
    ap flattened (own_fixed (flat_of a) (flattened_own (norm_of true a) h)) ∙ flattened_again (norm_of true a) h

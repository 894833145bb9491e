-- The order in which variables are met.
use Rattle.std.specs.Prelude.{ℕ, ◌≡◌, ◌+◌, ◌<◌, ◌≤◌, nat_eq, Bool, true, false, ◌||◌, List, [], ◌∷◌, ◌++◌, length, get_or, take, flat_map, Result, Ok, Err, OnOk, refl}
use Rattle.std.specs.List.{list_any, IsDistinct, All as Each}
use Rattle.std.proofs.lemmas.Cmp.{nat_eq_equiv}
use Rattle.std.proofs.Common.{ap, sym, subst, ◌∙◌, arith, ◌⊎◌, inl, inr}
use Rattle.std.proofs.lemmas.Bool.{lt-ltb, le-ltb, eq-eqb, eqb-true}
use Rattle.std.proofs.lemmas.List.{append-nil}
use Rattle.std.proofs.lemmas.List.Concat.{flat_map-cons}
use Rattle.std.proofs.lemmas.Grind.{flat_map-append}
use Rattle.std.proofs.lemmas.List.Folds.{list_any-append, list_any_at}
use Rattle.std.proofs.lemmas.Map.Keys.{IsDistinct-push}
use Rattle.std.proofs.lemmas.Map.Steps.{length-le_from_distinct_below}
use Rattle.fof_terms.specs.declared.form.Form.{Form}
use Rattle.fof_terms.proofs.LiftingLaws.{below_or_above}
use Rattle.flat_form.specs.Flat.{met, met_all, order_of}
use Rattle.flat_form.proofs.Lists.{take_next}
use Rattle.flat_form.specs.Variables.{variables_of}

pub met_append : (n : ℕ) (seen xs ys : List ℕ) → met_all n seen (xs ++ ys) ≡ met_all n (met_all n seen xs) ys
met_append n seen [] ys = refl
met_append n seen (x ∷ xs) ys = met_append n (met n seen x) xs ys

-- as code meets them
pub on_ok : {X E P Q : Type 0} (r : Result X E) → (P → Q) → OnOk r P → OnOk r Q
on_ok (Ok x) f p = f p
on_ok (Err e) f p = p

pub met_both : (n : ℕ) (seen xs ys whole mid last : List ℕ) → whole ≡ xs ++ ys → mid ≡ met_all n seen xs → last ≡ met_all n mid ys → last ≡ met_all n seen whole
met_both n seen xs ys whole mid last is one two = two ∙ (ap (λ ks. met_all n ks ys) one ∙ (sym (met_append n seen xs ys) ∙ ap (met_all n seen) (sym is)))

pub met_more : {X : Type 0} (n : ℕ) (f : X → List ℕ) (xs : List X) (i : ℕ) (x : X) (seen now next : List ℕ) → i < length xs → x ≡ get_or xs i x
    → now ≡ met_all n seen (flat_map f (take i xs)) → next ≡ met_all n now (f x) → next ≡ met_all n seen (flat_map f (take (i + 1) xs))
met_more n f xs i x seen now next lt is one two =
    let all : flat_map f (take (i + 1) xs) ≡ flat_map f (take i xs) ++ f x =
    ap (flat_map f) (take_next xs i x lt ∙ ap (λ y. take i xs ++ y ∷ []) (sym is))
    ∙ (flat_map-append f (take i xs) (x ∷ []) ∙ ap (λ ks. flat_map f (take i xs) ++ ks) (flat_map-cons f x [] ∙ append-nil (f x))) in
    met_both n seen (flat_map f (take i xs)) (f x) (flat_map f (take (i + 1) xs)) now next all one two

-- whether the number is in the list
abbrev pub has : ℕ → List ℕ → Bool
has q xs = list_any (nat_eq q) xs

either : (b : Bool) → (b ≡ true) ⊎ (b ≡ false)
either true = inl refl
either false = inr refl

one_of : (a b : Bool) → (a || b) ≡ true → (a ≡ true) ⊎ (b ≡ true)
one_of true b e = inl refl
one_of false b e = inr e

or_left : (a b : Bool) → a ≡ true → (a || b) ≡ true
or_left true b e = refl
or_left false b e = absurd (let never : false ≡ true = e in cc)

or_right : (a b : Bool) → b ≡ true → (a || b) ≡ true
or_right true b e = refl
or_right false b e = e

-- it stays as it is, or the variable comes to its end
abbrev MetCases : ℕ → List ℕ → ℕ → Type 0
MetCases n seen k = ((met n seen k ≡ seen) × (k < n → has k seen ≡ true)) ⊎ ((met n seen k ≡ seen ++ k ∷ []) × (k < n) × (has k seen ≡ false))

met_cases : (n : ℕ) (seen : List ℕ) (k : ℕ) → MetCases n seen k
met_cases n seen k =
    elim (below_or_above k n) [
      | inl h ↦
          elim (either (has k seen)) [
            | inl e ↦ inl (rw (lt-ltb k n h, e) refl, λ lt. e)
            | inr e ↦ inr (rw (lt-ltb k n h, e) refl, h, e)
          ]
      | inr h ↦ inl (rw (le-ltb k n h) refl, λ lt. absurd (omega arith))
    ]

-- what is at the end
has_last : (q k : ℕ) (seen : List ℕ) → has q (seen ++ k ∷ []) ≡ true → (has q seen ≡ true) ⊎ (q ≡ k)
has_last q k seen e =
    elim (one_of (has q seen) (nat_eq q k || false) (sym (list_any-append (nat_eq q) seen (k ∷ [])) ∙ e)) [
      | inl h ↦ inl h
      | inr h ↦ elim (one_of (nat_eq q k) false h) [ inl g ↦ inr (eqb-true q k g) | inr g ↦ absurd (let never : false ≡ true = g in cc) ]
    ]

has_more : (q k : ℕ) (seen : List ℕ) → has q seen ≡ true → has q (seen ++ k ∷ []) ≡ true
has_more q k seen e = list_any-append (nat_eq q) seen (k ∷ []) ∙ or_left (has q seen) (nat_eq q k || false) e

has_end : (k : ℕ) (seen : List ℕ) → has k (seen ++ k ∷ []) ≡ true
has_end k seen = list_any-append (nat_eq k) seen (k ∷ []) ∙ or_right (has k seen) (nat_eq k k || false) (or_left (nat_eq k k) false (eq-eqb k k refl))

pub has_cons : (k x : ℕ) (xs : List ℕ) → nat_eq k x ≡ false → has k (x ∷ xs) ≡ true → has k xs ≡ true
has_cons k x xs e h = elim (one_of (nat_eq k x) (has k xs) h) [ inl g ↦ absurd (let never : true ≡ false = sym g ∙ e in cc) | inr g ↦ g ]

module _ (n : ℕ) (seen : List ℕ) (k : ℕ) where
  pub met_old : has k seen ≡ true → met n seen k ≡ seen
  met_old e =
      elim (met_cases n seen k) [
        | inl h ↦ h.0
        | inr h ↦ absurd (let never : true ≡ false = sym e ∙ h.2 in cc)
      ]

  pub met_new : k < n → has k seen ≡ false → met n seen k ≡ seen ++ k ∷ []
  met_new lt e =
      elim (met_cases n seen k) [
        | inl h ↦ absurd (let never : true ≡ false = sym (h.1 lt) ∙ e in cc)
        | inr h ↦ h.0
      ]

  pub met_not : n ≤ k → met n seen k ≡ seen
  met_not le =
      elim (met_cases n seen k) [
        | inl h ↦ h.0
        | inr h ↦ absurd (omega (arith, h.1))
      ]

  met_distinct : IsDistinct nat_eq seen → IsDistinct nat_eq (met n seen k)
  met_distinct d =
      elim (met_cases n seen k) [
        | inl h ↦ subst (IsDistinct nat_eq) (sym h.0) d
        | inr h ↦ subst (IsDistinct nat_eq) (sym h.0) (IsDistinct-push nat_eq_equiv seen k d h.2)
      ]

  pub met_only : (q : ℕ) → has q (met n seen k) ≡ true → (has q seen ≡ true) ⊎ ((q ≡ k) × (k < n))
  met_only q e =
      elim (met_cases n seen k) [
        | inl h ↦ inl (ap (has q) (sym h.0) ∙ e)
        | inr h ↦ elim (has_last q k seen (ap (has q) (sym h.0) ∙ e)) [ inl g ↦ inl g | inr g ↦ inr (g, h.1) ]
      ]

  met_keeps : (q : ℕ) → has q seen ≡ true → has q (met n seen k) ≡ true
  met_keeps q e =
      elim (met_cases n seen k) [
        | inl h ↦ ap (has q) h.0 ∙ e
        | inr h ↦ ap (has q) h.0 ∙ has_more q k seen e
      ]

  met_has : k < n → has k (met n seen k) ≡ true
  met_has lt =
      elim (met_cases n seen k) [
        | inl h ↦ ap (has k) h.0 ∙ h.1 lt
        | inr h ↦ ap (has k) h.0 ∙ has_end k seen
      ]

all_distinct : (n : ℕ) (seen ks : List ℕ) → IsDistinct nat_eq seen → IsDistinct nat_eq (met_all n seen ks)
all_distinct n seen [] d = d
all_distinct n seen (k ∷ ks) d = all_distinct n (met n seen k) ks (met_distinct n seen k d)

all_only : (n : ℕ) (seen ks : List ℕ) (q : ℕ) → has q (met_all n seen ks) ≡ true → (has q seen ≡ true) ⊎ ((q < n) × (has q ks ≡ true))
all_only n seen [] q e = inl e
all_only n seen (k ∷ ks) q e =
    elim (all_only n (met n seen k) ks q e) [
      | inl h ↦
          elim (met_only n seen k q h) [
            | inl g ↦ inl g
            | inr g ↦ inr (omega arith, or_left (nat_eq q k) (has q ks) (eq-eqb q k g.0))
          ]
      | inr h ↦ inr (h.0, or_right (nat_eq q k) (has q ks) h.1)
    ]

all_keeps : (n : ℕ) (seen ks : List ℕ) (q : ℕ) → has q seen ≡ true → has q (met_all n seen ks) ≡ true
all_keeps n seen [] q e = e
all_keeps n seen (k ∷ ks) q e = all_keeps n (met n seen k) ks q (met_keeps n seen k q e)

all_has : (n : ℕ) (seen ks : List ℕ) (q : ℕ) → q < n → has q ks ≡ true → has q (met_all n seen ks) ≡ true
all_has n seen [] q lt e = absurd (let never : false ≡ true = e in cc)
all_has n seen (k ∷ ks) q lt e =
    elim (one_of (nat_eq q k) (has q ks) e) [
      | inl h ↦
          let same : q ≡ k = eqb-true q k h in
          all_keeps n (met n seen k) ks q (subst (λ (j : ℕ). has j (met n seen k) ≡ true) (sym same) (met_has n seen k (omega arith)))
      | inr h ↦ all_has n (met n seen k) ks q lt h
    ]

-- the variables of an order differ, are below n, and are those that stand in the formula
module _ (n : ℕ) (a : Form) where
  pub order_distinct : IsDistinct nat_eq (order_of n a)
  unfolding IsDistinct
  order_distinct = all_distinct n [] (variables_of 0 a) tt

  pub order_only : (q : ℕ) → has q (order_of n a) ≡ true → (q < n) × (has q (variables_of 0 a) ≡ true)
  order_only q e = elim (all_only n [] (variables_of 0 a) q e) [ inl h ↦ absurd (let never : false ≡ true = h in cc) | inr h ↦ h ]

  pub order_has : (q : ℕ) → q < n → has q (variables_of 0 a) ≡ true → has q (order_of n a) ≡ true
  order_has q lt e = all_has n [] (variables_of 0 a) q lt e

  pub order_few : length (order_of n a) ≤ n
  order_few = length-le_from_distinct_below (order_of n a) n order_distinct (λ q e. (order_only q e).0)

  pub order_below : Each (λ k. k < n) (order_of n a)
  order_below i d lt = let k = get_or (order_of n a) i d in (order_only k (list_any_at (nat_eq k) (order_of n a) i d lt (eq-eqb k k refl))).0

-- as code has it
pub order_met : (n : ℕ) (a : Form) (start keys : List ℕ) → start ≡ [] → keys ≡ met_all n start (variables_of 0 a) → keys ≡ order_of n a
order_met n a start keys none e = e ∙ ap (λ ks. met_all n ks (variables_of 0 a)) none

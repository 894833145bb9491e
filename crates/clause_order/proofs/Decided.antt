-- When the order is decided.
use Rattle.std.specs.Prelude.{ℕ, ◌+◌, ◌<◌, ◌≤◌, ◌≡◌, ◌↔◌, ◌⊎◌, Bool, true, false, IsTrue, List, [], ◌∷◌, length, drop}
use Rattle.std.specs.Prelude.{get_or, refl}
use Rattle.std.proofs.Common.{arith, sym, subst, ◌∙◌, zero, suc, inl, inr, add-one}
use Rattle.std.proofs.Math.Seq.{drop-nil}
use Rattle.std.proofs.Math.Dec.{ltb}
use Rattle.std.proofs.lemmas.Bool.{ltb-true, lt-ltb}
use Rattle.fof_terms.specs.declared.term.Term.{Term, App}
use Rattle.clause_order.specs.Weights.{term_weight}
use Rattle.clause_order.specs.Order.{HasVariablesOf, IsGreater}
use Rattle.clause_order.specs.code.Inside.{ExceedAtFirst, ExceedsApp, IsGreaterInside}
use Rattle.clause_order.proofs.OrderFacts.{App-injective, greater_by, by_greater, irreflexive}

pub untrue : (b : Bool) (P : Type 0) → b ≡ false → (IsTrue b ↔ P) → P → ⊥
untrue b P e h p = let t : IsTrue b = h.1 p in cc

pub truly : (b : Bool) (P : Type 0) → b ≡ true → (IsTrue b ↔ P) → P
truly b P e h = h.0 e

-- The weights of the terms are known.
module _ (s t : Term) (m n : ℕ) (em : m ≡ term_weight s) (en : n ≡ term_weight t) where
  pub heavier : n < m → (b : Bool) → (IsTrue b ↔ HasVariablesOf s t) → IsTrue b ↔ IsGreater s t
  heavier less b has = (λ e. by_greater s t (has.0 e, inl (omega arith)), λ g. has.1 (greater_by s t g).0)

  pub lighter : m < n → IsTrue false ↔ IsGreater s t
  lighter less = (
    λ e. cc,
    λ g. elim (greater_by s t g).1 [ inl a ↦ absurd (omega arith) | inr a ↦ let w = a.0 in absurd (omega arith) ],
  )

  pub not_inside : m ≤ n → (IsGreaterInside s t → ⊥) → IsTrue false ↔ IsGreater s t
  not_inside up none = (
    λ e. cc,
    λ g. elim (greater_by s t g).1 [ inl a ↦ absurd (omega arith) | inr a ↦ absurd (none a.1) ],
  )

  pub inside : m ≤ n → n ≤ m → IsGreaterInside s t → (b : Bool) → (IsTrue b ↔ HasVariablesOf s t)
      → IsTrue b ↔ IsGreater s t
  inside up down within b has = (
    λ e. by_greater s t (has.0 e, inr (omega arith, within)),
    λ g. has.1 (greater_by s t g).0,
  )

-- The lists are compared up to a place.
at_next : (ss ts : List Term) (i : ℕ) (s t : Term) → i < length ss → i < length ts → s ≡ get_or ss i s
    → t ≡ get_or ts i t
    → ExceedAtFirst (drop i ss) (drop i ts) ↔ (IsGreater s t ⊎
    ((s ≡ t) × ExceedAtFirst (drop (suc i) ss) (drop (suc i) ts)))
at_next [] ts i s t h g es et = absurd (omega arith)
at_next (x ∷ ss) [] i s t h g es et = absurd (omega arith)
at_next (x ∷ ss) (y ∷ ts) zero s t h g es et = rw (es, et) (λ e. e, λ e. e)
at_next (x ∷ ss) (y ∷ ts) (suc i) s t h g es et = at_next ss ts i s t (omega arith) (omega arith) es et

module _ (ss ts : List Term) (i : ℕ) (s t : Term) (hs : i < length ss) (ht : i < length ts) (es : s ≡ get_or ss i s)
    (et : t ≡ get_or ts i t) (b : Bool) (test : IsTrue b ↔ (s ≡ t))
    (so : ExceedAtFirst (drop i ss) (drop i ts) ↔ ExceedAtFirst ss ts) where
  pub same_here : b ≡ true → ExceedAtFirst (drop (i + 1) ss) (drop (i + 1) ts) ↔ ExceedAtFirst ss ts
  same_here told =
      let next = at_next ss ts i s t hs ht es et in
      let same = test.0 told in
      rw add-one (
        λ e. so.0 (next.1 (inr (same, e))),
        λ e. elim (next.0 (so.1 e)) [ inl a ↦ absurd (irreflexive s (subst (IsGreater s) (sym same) a)) | inr a ↦ a.1 ],
      )

  pub apart_here : b ≡ false → (r : Bool) → (IsTrue r ↔ IsGreater s t) → IsTrue r ↔ ExceedAtFirst ss ts
  apart_here told r greater =
      let next = at_next ss ts i s t hs ht es et in (
        λ e. so.0 (next.1 (inl (greater.0 e))),
        λ e. elim (next.0 (so.1 e)) [ inl a ↦ greater.1 a | inr a ↦ absurd (untrue b (s ≡ t) told test a.0) ],
      )

nothing_exceeds : (ss ts : List Term) (n : ℕ) → length ts ≤ n → ExceedAtFirst (drop n ss) (drop n ts) → ⊥
nothing_exceeds [] ts zero h e = e
nothing_exceeds (s ∷ ss) [] zero h e = e
nothing_exceeds (s ∷ ss) (t ∷ ts) zero h e = absurd (omega arith)
nothing_exceeds [] ts (suc n) h e = e
nothing_exceeds (s ∷ ss) [] (suc n) h e = nothing_exceeds ss [] n (omega arith)
    (subst (λ (zs : List Term). ExceedAtFirst (drop n ss) zs) (sym (drop-nil n)) e)
nothing_exceeds (s ∷ ss) (t ∷ ts) (suc n) h e = nothing_exceeds ss ts n (omega arith) e

pub exceeds_past : (ss ts : List Term) (n : ℕ) → length ts ≤ n
    → (ExceedAtFirst (drop n ss) (drop n ts) ↔ ExceedAtFirst ss ts) → IsTrue false ↔ ExceedAtFirst ss ts
exceeds_past ss ts n h so = (λ e. cc, λ e. absurd (nothing_exceeds ss ts n h (so.1 e)))

-- Both terms are applications.
pub inside_parts : (s t : Term) (f g : ℕ) (ss ts : List Term) → s ≡ App f ss → t ≡ App g ts
    → IsGreaterInside s t ↔ ExceedsApp f ss g ts
inside_parts s t f g ss ts is es = (
  λ i.
      let left = App-injective i.0 f i.2 ss (sym i.4 ∙ is) in
      let right = App-injective i.1 g i.3 ts (sym i.5 ∙ es) in
      elim i.6 [
        | inl a ↦ let el = left.0 in let er = right.0 in inl (omega arith)
        | inr a ↦ inr (
          sym right.0 ∙ a.0 ∙ left.0,
          subst (λ (zs : List Term). ExceedAtFirst zs ts) left.1
              (subst (λ (zs : List Term). ExceedAtFirst i.2 zs) right.1 a.1),
        )
      ],
  λ e. (f, g, ss, ts, is, es, e),
)

module _ (s t : Term) (f g : ℕ) (ss ts : List Term) (is : s ≡ App f ss) (es : t ≡ App g ts) where
  pub head_wins : g < f → IsTrue true ↔ IsGreaterInside s t
  head_wins h = (λ e. (inside_parts s t f g ss ts is es).1 (inl h), λ i. refl)

  pub head_loses : f < g → IsTrue false ↔ IsGreaterInside s t
  head_loses h = (
    λ e. cc,
    λ i. elim ((inside_parts s t f g ss ts is es).0 i) [
      | inl a ↦ absurd (omega arith)
      | inr a ↦ let e = a.0 in absurd
          (omega arith)
    ],
  )

  pub same_heads : f ≡ g → (b : Bool) → (IsTrue b ↔ ExceedAtFirst ss ts) → IsTrue b ↔ IsGreaterInside s t
  same_heads same b exceed = (
    λ e. (inside_parts s t f g ss ts is es).1 (inr (sym same, exceed.0 e)),
    λ i. elim ((inside_parts s t f g ss ts is es).0 i) [ inl a ↦ absurd (omega arith) | inr a ↦ exceed.1 a.1 ],
  )

-- predicates are heads above those of equations, truth and falsehood
pub predicates : (s t : Term) (p q : ℕ) (ss ts : List Term) → s ≡ App (p + 3) ss → t ≡ App (q + 3) ts → (q ≡ p → ⊥)
    → IsTrue (ltb q p) ↔ IsGreaterInside s t
predicates s t p q ss ts is es apart = (
  λ e. let less = ltb-true q p e in (inside_parts s t (p + 3) (q + 3) ss ts is es).1 (inl (omega arith)),
  λ i. elim ((inside_parts s t (p + 3) (q + 3) ss ts is es).0 i) [
    | inl a ↦ lt-ltb q p (omega arith)
    | inr a ↦ absurd (apart (let e = a.0 in omega arith))
  ],
)

none_exceeds : IsTrue false ↔ ExceedAtFirst [] []
none_exceeds = (λ e. cc, λ e. absurd e)

pub same_constants : (s t : Term) (f : ℕ) → s ≡ App f [] → t ≡ App f [] → IsTrue false ↔ IsGreaterInside s t
same_constants s t f is es = same_heads s t f f [] [] is es refl false none_exceeds

pub least_constant : (s t : Term) → s ≡ App 0 [] → IsTrue false ↔ IsGreaterInside s t
least_constant s t is = (
  λ e. cc,
  λ i.
      let left = App-injective i.0 0 i.2 [] (sym i.4 ∙ is) in
      elim i.6 [
        | inl a ↦ let e = left.0 in absurd (omega arith)
        | inr a ↦ absurd (subst (λ (zs : List Term). ExceedAtFirst zs i.3) left.1 a.1)
      ],
)

-- Two equations, side by side.
module _ (a b c d : Term) (m : Bool) (test : IsTrue m ↔ (a ≡ c)) where
  pub second_sides : m ≡ true → (r : Bool) → (IsTrue r ↔ IsGreater b d)
      → IsTrue r ↔ ExceedAtFirst (a ∷ b ∷ []) (c ∷ d ∷ [])
  second_sides told r greater =
      let same = test.0 told in (
        λ e. inr (same, inl (greater.0 e)),
        λ e. elim e [
          | inl x ↦ absurd (irreflexive a (subst (IsGreater a) (sym same) x))
          | inr x ↦ elim x.1 [ inl y ↦ greater.1 y | inr y ↦ absurd y.1 ]
        ],
      )

  pub first_sides : m ≡ false → (r : Bool) → (IsTrue r ↔ IsGreater a c)
      → IsTrue r ↔ ExceedAtFirst (a ∷ b ∷ []) (c ∷ d ∷ [])
  first_sides told r greater = (
    λ e. inl (greater.0 e),
    λ e. elim e [ inl x ↦ greater.1 x | inr x ↦ absurd (untrue m (a ≡ c) told test x.0) ],
  )

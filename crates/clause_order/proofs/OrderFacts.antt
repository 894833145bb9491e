-- The order by its cases, and that it is strict.
use Rattle.std.specs.Prelude.{ℕ, ◌<◌, ◌≤◌, ◌≡◌, ◌↔◌, ◌⊎◌, IsTrue, true, List, [], ◌∷◌, ◌++◌, refl}
use Rattle.std.proofs.Common.{arith, inl, inr, sym, ap, subst, ◌∙◌}
use Rattle.fof_terms.specs.declared.term.Term.{Term, App}
use Rattle.fof_terms.specs.declared.term.Term.TheViews.{out-Term, outs-App}
use Rattle.clause_order.specs.Weights.{term_weight}
use Rattle.clause_order.specs.Order.{HasVariablesOf, IsLevel, IsGreater, by_weight, by_head, by_argument}
use Rattle.clause_order.specs.Eligible.{IsNotLess}
use Rattle.clause_order.specs.code.Inside.{ExceedAtFirst, ExceedsApp, IsGreaterInside}
use Rattle.fof_terms.specs.declared.term.Term.TheOpen as term

pub App-injective : (f g : ℕ) (ss ts : List Term) → App f ss ≡ App g ts → (f ≡ g) × (ss ≡ ts)
App-injective f g ss ts e = let layers : term.App f ss ≡ term.App g ts = sym (outs-App f ss) ∙ ap out-Term e ∙ outs-App
    g ts in (cc, cc)

-- lists that differ first at the places of s and t
exceeds_by : (same : List Term) (s t : Term) (ss ts : List Term) → IsGreater s t
    → ExceedAtFirst (same ++ s ∷ ss) (same ++ t ∷ ts)
exceeds_by [] s t ss ts h = inl h
exceeds_by (x ∷ same) s t ss ts h = inr (refl, exceeds_by same s t ss ts h)

abbrev DifferAt : List Term → List Term → Type 0
DifferAt ss ts = (same : List Term) × (s t : Term) × (rest others : List Term) × (ss ≡ same ++ s ∷ rest) ×
    (ts ≡ same ++ t ∷ others) × IsGreater s t

differ_at : (ss ts : List Term) → ExceedAtFirst ss ts → DifferAt ss ts
differ_at [] ts h = absurd h
differ_at (s ∷ ss) [] h = absurd h
differ_at (s ∷ ss) (t ∷ ts) (inl h) = ([], s, t, ss, ts, refl, refl, h)
differ_at (s ∷ ss) (t ∷ ts) (inr h) =
    let d = differ_at ss ts h.1 in
    (s ∷ d.0, d.1, d.2, d.3, d.4, ap (λ zs. s ∷ zs) d.5, rw (sym h.0) (ap (λ zs. s ∷ zs) d.6), d.7)

-- the term has the variables of the second and is heavier, or as heavy and greater inside
abbrev pub IsGreaterBy : Term → Term → Type 0
IsGreaterBy s t = HasVariablesOf s t × ((term_weight t < term_weight s) ⊎
    ((term_weight s ≡ term_weight t) × IsGreaterInside s t))

pub greater_by : (s t : Term) → IsGreater s t → IsGreaterBy s t
greater_by _ _ (by_weight s t v h) = (v, inl h)
greater_by _ _ (by_head f g ss ts level h) = (level.variables, inr (level.weight, (f, g, ss, ts, refl, refl, inl h)))
greater_by _ _ (by_argument f same s' t' ss ts level h) = (
  level.variables,
  inr (
    level.weight,
    (
      f,
      f,
      same ++ s' ∷ ss,
      same ++ t' ∷ ts,
      refl,
      refl,
      inr
          (refl, exceeds_by same s' t' ss ts h),
    ),
  ),
)

level_as : (s t s' t' : Term) → s ≡ s' → t ≡ t' → HasVariablesOf s t → term_weight s ≡ term_weight t → IsLevel s' t'
level_as s t s' t' is es v w = subst (λ x. IsLevel x t') is (subst (λ y. IsLevel s y) es
    (record { variables = v; weight = w }))

greater_as : (s t s' t' : Term) → s ≡ s' → t ≡ t' → IsGreater s' t' → IsGreater s t
greater_as s t s' t' is es h = subst (λ x. IsGreater x t) (sym is) (subst (λ y. IsGreater s' y) (sym es) h)

greater_inside : (s t : Term) → HasVariablesOf s t → term_weight s ≡ term_weight t → (f g : ℕ) (ss ts : List Term)
    → s ≡ App f ss → t ≡ App g ts → ExceedsApp f ss g ts → IsGreater s t
greater_inside s t v w f g ss ts is es (inl h) =
    greater_as s t (App f ss) (App g ts) is es (by_head f g ss ts (level_as s t (App f ss) (App g ts) is es v w) h)
greater_inside s t v w f g ss ts is es (inr h) =
    let d = differ_at ss ts h.1 in
    let left : s ≡ App f (d.0 ++ d.1 ∷ d.3) = is ∙ ap (App f) d.5 in
    let right : t ≡ App f (d.0 ++ d.2 ∷ d.4) = es ∙ ap (λ n. App n ts) h.0 ∙ ap (App f) d.6 in
    greater_as s t _ _ left right (by_argument f d.0 d.1 d.2 d.3 d.4 (level_as s t _ _ left right v w) d.7)

pub by_greater : (s t : Term) → IsGreaterBy s t → IsGreater s t
by_greater s t h = elim h.1 [
  | inl a ↦ by_weight s t h.0 a
  | inr a ↦ greater_inside s t h.0 a.0 a.1.0 a.1.1 a.1.2 a.1.3 a.1.4 a.1.5 a.1.6
]

-- No term is greater than itself.
same_next : (same : List Term) (s t : Term) (ss ts : List Term) → same ++ s ∷ ss ≡ same ++ t ∷ ts → s ≡ t
same_next [] s t ss ts e = cc
same_next (x ∷ same) s t ss ts e = let rest : same ++ s ∷ ss ≡ same ++ t ∷ ts = cc in same_next same s t ss ts rest

never_same : (s t : Term) → IsGreater s t → s ≡ t → ⊥
never_same _ _ (by_weight s t v h) e = let w = ap term_weight e in absurd (omega arith)
never_same _ _ (by_head f g ss ts level h) e = let heads = (App-injective f g ss ts e).0 in absurd (omega arith)
never_same _ _ (by_argument f same s' t' ss ts level h) e =
    never_same s' t' h (same_next same s' t' ss ts (App-injective f f (same ++ s' ∷ ss) (same ++ t' ∷ ts) e).1)

pub irreflexive : (s : Term) → IsGreater s s → ⊥
irreflexive s h = never_same s s h refl

-- What is greater than a greater term is greater.
beyond : (same : List Term) (s t : Term) (ss ts zs : List Term) → IsGreater s t
    → ((u : Term) → IsGreater t u → IsGreater s u) → ExceedAtFirst (same ++ t ∷ ts) zs
    → ExceedAtFirst (same ++ s ∷ ss) zs
beyond [] s t ss ts [] h on e = e
beyond [] s t ss ts (z ∷ zs) h on (inl g) = inl (on z g)
beyond [] s t ss ts (z ∷ zs) h on (inr g) = inl (subst (λ x. IsGreater s x) g.0 h)
beyond (x ∷ same) s t ss ts [] h on e = e
beyond (x ∷ same) s t ss ts (z ∷ zs) h on (inl g) = inl g
beyond (x ∷ same) s t ss ts (z ∷ zs) h on (inr g) = inr (g.0, beyond same s t ss ts zs h on g.1)

variables_then : (s t u : Term) → HasVariablesOf s t → HasVariablesOf t u → HasVariablesOf s u
variables_then s t u v w x = let a = v x in let b = w x in omega arith

no_heavier : (t u : Term) → IsGreaterBy t u → term_weight u ≤ term_weight t
no_heavier t u h = elim h.1 [
  | inl a ↦ omega arith
  | inr a ↦ let e = a.0 in omega arith
]

heads_then : (s t u : Term) (f g : ℕ) (ss ts : List Term) → s ≡ App f ss → t ≡ App g ts → IsLevel s t → g < f
    → IsGreaterBy t u → IsGreaterBy s u
heads_then s t u f g ss ts is es level h by = (
  variables_then s t u level.variables by.0,
  elim by.1 [
    | inl a ↦ let w = level.weight in inl (omega arith)
    | inr a ↦
        let i = a.1 in
        let heads = (App-injective i.0 g i.2 ts (sym i.4 ∙ es)).0 in
        let less : i.1 < f = elim i.6 [ inl b ↦ omega arith | inr b ↦ let e = b.0 in omega arith ] in
        inr (level.weight ∙ a.0, (f, i.1, ss, i.3, is, i.5, inl less))
  ],
)

arguments_then : (s t u : Term) (f : ℕ) (same : List Term) (s' t' : Term) (ss ts : List Term)
    → s ≡ App f (same ++ s' ∷ ss) → t ≡ App f (same ++ t' ∷ ts) → IsLevel s t → IsGreater s' t'
    → ((z : Term) → IsGreater t' z → IsGreater s' z)
    → IsGreaterBy t u → IsGreaterBy s u
arguments_then s t u f same s' t' ss ts is es level h on by = (
  variables_then s t u level.variables by.0,
  elim by.1 [
    | inl a ↦ let w = level.weight in inl (omega arith)
    | inr a ↦
        let i = a.1 in
        let parts = App-injective i.0 f i.2 (same ++ t' ∷ ts) (sym i.4 ∙ es) in
        let whole = same ++ s' ∷ ss in
        let inside : ExceedsApp f whole i.1 i.3 = elim i.6 [
          | inl b ↦ let e = parts.0 in inl (omega arith)
          | inr b ↦ inr (
            b.0 ∙ parts.0,
            beyond same s' t' ss ts i.3 h on
                (subst (λ (zs : List Term). ExceedAtFirst zs i.3) parts.1 b.1),
          )
        ] in
        inr (level.weight ∙ a.0, (f, i.1, whole, i.3, is, i.5, inside))
  ],
)

pub transitive : (s t u : Term) → IsGreater s t → IsGreater t u → IsGreater s u
transitive s t u h g = go s t h u g where
  go : (s t : Term) → IsGreater s t → (u : Term) → IsGreater t u → IsGreater s u
  go _ _ (by_weight s t v h) u g =
      let by = greater_by t u g in
      let less = no_heavier t u by in
      by_weight s u (variables_then s t u v by.0) (omega arith)
  go _ _ (by_head f g ss ts level h) u more =
      by_greater (App f ss) u (heads_then (App f ss) (App g ts) u f g ss ts refl refl level h
      (greater_by (App g ts) u more))
  go _ _ (by_argument f same s' t' ss ts level h) u more =
      by_greater (App f (same ++ s' ∷ ss)) u
      (arguments_then (App f (same ++ s' ∷ ss)) (App f (same ++ t' ∷ ts)) u f same s' t' ss ts refl refl level h
      (λ z after. go s' t' h z after) (greater_by (App f (same ++ t' ∷ ts)) u more))

pub asymmetric : (s t : Term) → IsGreater s t → IsGreater t s → ⊥
asymmetric s t h g = irreflexive s (transitive s t s h g)

pub not_less : (s t : Term) → IsGreater s t → IsTrue true ↔ IsNotLess s t
not_less s t h = (λ e g. asymmetric s t h g, λ e. refl)

pub same_not_less : (s t : Term) → s ≡ t → IsTrue true ↔ IsNotLess s t
same_not_less s t same = (λ e g. never_same t s g (sym same), λ e. refl)

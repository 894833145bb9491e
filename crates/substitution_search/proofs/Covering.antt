-- The ways to cover a literal are met exactly where its instance is covered.
use Rattle.std.specs.Prelude.{ℕ, ◌≡◌, Bool, true, false, ◌⊎◌, List, [], ◌∷◌, ◌++◌, length, map, flat_map, Some, slice_get, refl}
use Rattle.std.proofs.Common.{ap, sym, subst, ◌∙◌, arith, zero, suc, inl, inr}
use Rattle.std.proofs.lemmas.Bool.Decides.{eqb_tells}
use Rattle.std.proofs.lemmas.List.Concat.{flat_map-cons}
use Rattle.fof_terms.specs.declared.term.Term.{Term}
use Rattle.clause_form.specs.declared.clause.AtomOf.{AtomOf}
use Rattle.clause_form.specs.declared.clause.AtomOf.TheVariants.{Pred, Eq, True, False}
use Rattle.clause_form.specs.declared.clause.Lit.{Lit}
use Rattle.clause_form.specs.Covers.{at_terms, lit_image, turned_atom, IsSameAtom, IsSame, Denies, IsCovered}
use Rattle.clause_form.proofs.ClauseLaws.{get_image}
use Rattle.clause_form.specs.Images.{image}
use Rattle.unify_terms.specs.declared.pair.Pair.{Pair}
use Rattle.unify_terms.specs.Unifiers.{Unifies}
use Rattle.unify_terms.specs.Substitution.{image_at, instance}
use Rattle.clause_rules.specs.Steps.{AreCovered}
use Rattle.substitution_search.specs.code.Ways.{HasWay}
use Rattle.clause_rules.specs.Ways.{zip_pairs, atom_ways, signed_ways, lit_ways, absurd_ways, cover_ways, cover_needs}
use Rattle.substitution_search.proofs.WaysFacts.{MeetsNeeds}
use Rattle.clause_rules.proofs.LitImages.{instance_is}

module _ (images : List Term) where
  abbrev I : Term → Term
  I = image (image_at images)

  abbrev L : Lit → Lit
  L = lit_image (image_at images)

  pub pair_forth : (s t : Term) → instance images s ≡ instance images t → I s ≡ I t
  pair_forth s t e = sym (instance_is images s) ∙ e ∙ instance_is images t

  pub pair_back : (s t : Term) → I s ≡ I t → instance images s ≡ instance images t
  pair_back s t e = instance_is images s ∙ e ∙ sym (instance_is images t)

  zip_forth : (ts us : List Term) → length ts ≡ length us → Unifies images (zip_pairs ts us) → map I ts ≡ map I us
  zip_forth [] [] e h = refl
  zip_forth [] (u ∷ us) e h = absurd (omega arith)
  zip_forth (t ∷ ts) [] e h = absurd (omega arith)
  zip_forth (t ∷ ts) (u ∷ us) e h = rw (pair_forth t u h.0, zip_forth ts us (omega arith) h.1) refl

  zip_back : (ts us : List Term) → map I ts ≡ map I us → Unifies images (zip_pairs ts us) × (length ts ≡ length us)
  zip_back [] [] e = (tt, refl)
  zip_back [] (u ∷ us) e = cc
  zip_back (t ∷ ts) [] e = cc
  zip_back (t ∷ ts) (u ∷ us) e =
      let head : I t ≡ I u = cc in
      let tail : map I ts ≡ map I us = cc in
      let rest = zip_back ts us tail in
      ((pair_back t u head, rest.0), ap (λ n. suc n) rest.1)

  pred_forth : (p q : ℕ) (ts us : List Term) → HasWay images (atom_ways (Pred p ts) (Pred q us)) → IsSameAtom (at_terms I (Pred p ts)) (at_terms I (Pred q us))
  pred_forth p q ts us h =
      elim (eqb_tells p q) [
        | inl e ↦
            elim (eqb_tells (length ts) (length us)) [
              | inl f ↦
                  let there : HasWay images (zip_pairs ts us ∷ []) = rw (e.0, f.0) at h in
                  elim there [
                    | inl u ↦ inl (rw (e.1, zip_forth ts us f.1 u) refl)
                    | inr none ↦ absurd none
                  ]
              | inr f ↦ let none : HasWay images [] = rw (e.0, f.0) at h in absurd none
            ]
        | inr e ↦ let none : HasWay images [] = rw e.0 at h in absurd none
      ]

  pred_back : (p q : ℕ) (ts us : List Term) → p ≡ q → map I ts ≡ map I us → HasWay images (atom_ways (Pred p ts) (Pred q us))
  pred_back p q ts us e f =
      let both = zip_back ts us f in
      elim (eqb_tells p q) [
        | inl a ↦
            elim (eqb_tells (length ts) (length us)) [
              | inl b ↦ rw (a.0, b.0) (inl both.0)
              | inr b ↦ absurd (b.1 both.1)
            ]
        | inr a ↦ absurd (a.1 e)
      ]

  pub atom_forth : (a b : AtomOf) → HasWay images (atom_ways a b) → IsSameAtom (at_terms I a) (at_terms I b)
  atom_forth (Pred p ts) (Pred q us) h = pred_forth p q ts us h
  atom_forth (Pred p ts) (Eq c d) h = absurd h
  atom_forth (Pred p ts) True h = absurd h
  atom_forth (Pred p ts) False h = absurd h
  atom_forth (Eq l r) (Pred q us) h = absurd h
  atom_forth (Eq l r) (Eq c d) h = elim h [
    | inl u ↦ inl (rw (pair_forth l c u.0, pair_forth r d u.1.0) refl)
    | inr g ↦
        elim g [
          | inl u ↦ inr (rw (pair_forth r c u.0, pair_forth l d u.1.0) refl)
          | inr none ↦ absurd none
        ]
  ]
  atom_forth (Eq l r) True h = absurd h
  atom_forth (Eq l r) False h = absurd h
  atom_forth True (Pred q us) h = absurd h
  atom_forth True (Eq c d) h = absurd h
  atom_forth True True h = inl refl
  atom_forth True False h = absurd h
  atom_forth False (Pred q us) h = absurd h
  atom_forth False (Eq c d) h = absurd h
  atom_forth False True h = absurd h
  atom_forth False False h = inl refl

  eq_back : (l r c d : Term) → IsSameAtom (at_terms I (Eq l r)) (at_terms I (Eq c d)) → HasWay images (atom_ways (Eq l r) (Eq c d))
  eq_back l r c d (inl e) =
      let first : I l ≡ I c = cc in
      let second : I r ≡ I d = cc in
      inl (pair_back l c first, (pair_back r d second, tt))
  eq_back l r c d (inr e) =
      let first : I r ≡ I c = cc in
      let second : I l ≡ I d = cc in
      inr (inl (pair_back r c first, (pair_back l d second, tt)))

  pred_both : (p q : ℕ) (ts us : List Term) → IsSameAtom (at_terms I (Pred p ts)) (at_terms I (Pred q us)) → HasWay images (atom_ways (Pred p ts) (Pred q us))
  pred_both p q ts us (inl e) = let same : p ≡ q = cc in let args : map I ts ≡ map I us = cc in pred_back p q ts us same args
  pred_both p q ts us (inr e) = let same : p ≡ q = cc in let args : map I ts ≡ map I us = cc in pred_back p q ts us same args

  other_back : (a b : AtomOf) → (a ≡ b → ⊥) → (turned_atom a ≡ b → ⊥) → IsSameAtom a b → ⊥
  other_back a b h g (inl e) = h e
  other_back a b h g (inr e) = g e

  pub atom_back : (a b : AtomOf) → IsSameAtom (at_terms I a) (at_terms I b) → HasWay images (atom_ways a b)
  atom_back (Pred p ts) (Pred q us) h = pred_both p q ts us h
  atom_back (Pred p ts) (Eq c d) h = other_back _ _ (λ e. cc) (λ e. cc) h
  atom_back (Pred p ts) True h = other_back _ _ (λ e. cc) (λ e. cc) h
  atom_back (Pred p ts) False h = other_back _ _ (λ e. cc) (λ e. cc) h
  atom_back (Eq l r) (Pred q us) h = other_back _ _ (λ e. cc) (λ e. cc) h
  atom_back (Eq l r) (Eq c d) h = eq_back l r c d h
  atom_back (Eq l r) True h = other_back _ _ (λ e. cc) (λ e. cc) h
  atom_back (Eq l r) False h = other_back _ _ (λ e. cc) (λ e. cc) h
  atom_back True (Pred q us) h = other_back _ _ (λ e. cc) (λ e. cc) h
  atom_back True (Eq c d) h = other_back _ _ (λ e. cc) (λ e. cc) h
  atom_back True True h = inl tt
  atom_back True False h = other_back _ _ (λ e. cc) (λ e. cc) h
  atom_back False (Pred q us) h = other_back _ _ (λ e. cc) (λ e. cc) h
  atom_back False (Eq c d) h = other_back _ _ (λ e. cc) (λ e. cc) h
  atom_back False True h = other_back _ _ (λ e. cc) (λ e. cc) h
  atom_back False False h = inl tt

  abbrev lit_of : Bool → AtomOf → Lit
  lit_of g a = record { positive = g; atom = a }

  same_lits : (g : Bool) (a b : AtomOf) → IsSameAtom (at_terms I a) (at_terms I b) → IsSame (L (lit_of g a)) (L (lit_of g b))
  same_lits g a b (inl e) = inl (ap (lit_of g) e)
  same_lits g a b (inr e) = inr (ap (lit_of g) e)

  signed_forth : (g h : Bool) (a b : AtomOf) → HasWay images (signed_ways g h (atom_ways a b)) → IsSame (L (lit_of g a)) (L (lit_of h b))
  signed_forth true true a b w = same_lits true a b (atom_forth a b w)
  signed_forth false false a b w = same_lits false a b (atom_forth a b w)
  signed_forth true false a b w = absurd w
  signed_forth false true a b w = absurd w

  same_atoms : (g h : Bool) (a b : AtomOf) → IsSame (lit_of g a) (lit_of h b) → (g ≡ h) × IsSameAtom a b
  same_atoms g h a b (inl e) = (ap (λ (l : Lit). l.positive) e, inl (ap (λ (l : Lit). l.atom) e))
  same_atoms g h a b (inr e) = (ap (λ (l : Lit). l.positive) e, inr (ap (λ (l : Lit). l.atom) e))

  signed_back : (g h : Bool) (a b : AtomOf) → g ≡ h → IsSameAtom (at_terms I a) (at_terms I b) → HasWay images (signed_ways g h (atom_ways a b))
  signed_back true true a b e s = atom_back a b s
  signed_back false false a b e s = atom_back a b s
  signed_back true false a b e s = absurd (let f = e in cc)
  signed_back false true a b e s = absurd (let f = e in cc)

  -- the ways to one literal
  pub lit_forth : (g : Bool) (a : AtomOf) (l : Lit) → HasWay images (lit_ways g a l) → IsSame (L (lit_of g a)) (L l)
  lit_forth g a l w = signed_forth g l.positive a l.atom w

  pub lit_back : (g : Bool) (a : AtomOf) (l : Lit) → IsSame (L (lit_of g a)) (L l) → HasWay images (lit_ways g a l)
  lit_back g a l s = let both = same_atoms g l.positive (at_terms I a) (at_terms I l.atom) s in signed_back g l.positive a l.atom both.0 both.1

  absurd_forth : (a : AtomOf) (g : Bool) → HasWay images (absurd_ways a g) → Denies (at_terms I a) g
  absurd_forth (Pred p ts) g h = absurd h
  absurd_forth (Eq s t) true h = absurd h
  absurd_forth (Eq s t) false h = elim h [
    | inl u ↦ (refl, pair_forth s t u.0)
    | inr none ↦ absurd none
  ]
  absurd_forth True true h = absurd h
  absurd_forth True false h = refl
  absurd_forth False true h = refl
  absurd_forth False false h = absurd h

  absurd_back : (a : AtomOf) (g : Bool) → Denies (at_terms I a) g → HasWay images (absurd_ways a g)
  absurd_back (Pred p ts) g h = absurd h
  absurd_back (Eq s t) true h = absurd (let f = h.0 in cc)
  absurd_back (Eq s t) false h = inl (pair_back s t h.1, tt)
  absurd_back True true h = absurd (let f = h in cc)
  absurd_back True false h = inl tt
  absurd_back False true h = inl tt
  absurd_back False false h = absurd (let f = h in cc)

  has_parts : (xs ys : List (List Pair)) → HasWay images (xs ++ ys) → HasWay images xs ⊎ HasWay images ys
  has_parts [] ys h = inr h
  has_parts (x ∷ xs) ys (inl u) = inl (inl u)
  has_parts (x ∷ xs) ys (inr h) = elim (has_parts xs ys h) [
    | inl a ↦ inl (inr a)
    | inr b ↦ inr b
  ]

  pub has_first : (xs ys : List (List Pair)) → HasWay images xs → HasWay images (xs ++ ys)
  has_first [] ys h = absurd h
  has_first (x ∷ xs) ys (inl u) = inl u
  has_first (x ∷ xs) ys (inr h) = inr (has_first xs ys h)

  has_second : (xs ys : List (List Pair)) → HasWay images ys → HasWay images (xs ++ ys)
  has_second [] ys h = h
  has_second (x ∷ xs) ys h = inr (has_second xs ys h)

  targets_forth : (f : Lit → List (List Pair)) (targets : List Lit) → HasWay images (flat_map f targets) → (i : ℕ) × (l : Lit) × (slice_get targets i ≡ Some l) × HasWay images (f l)
  targets_forth f [] h = absurd h
  targets_forth f (l ∷ targets) h = elim (has_parts (f l) (flat_map f targets) (subst (HasWay images) (flat_map-cons f l targets) h)) [
    | inl here ↦ (0, l, refl, here)
    | inr there ↦ let rest = targets_forth f targets there in (suc rest.0, rest.1, rest.2, rest.3)
  ]

  pub targets_back : (f : Lit → List (List Pair)) (targets : List Lit) (i : ℕ) (l : Lit) → slice_get targets i ≡ Some l → HasWay images (f l) → HasWay images (flat_map f targets)
  targets_back f [] i l e h = cc
  targets_back f (k ∷ targets) zero l e h = let same : l ≡ k = cc in subst (HasWay images) (sym (flat_map-cons f k targets)) (has_first (f k) (flat_map f targets) (subst (λ x. HasWay images (f x)) same h))
  targets_back f (k ∷ targets) (suc i) l e h = subst (HasWay images) (sym (flat_map-cons f k targets)) (has_second (f k) (flat_map f targets) (targets_back f targets i l e h))

  pub cover_forth : (targets : List Lit) (k : Lit) → HasWay images (cover_ways targets k) → IsCovered (map L targets) (L k)
  cover_forth targets k h = elim (has_parts (flat_map (lit_ways k.positive k.atom) targets) (absurd_ways k.atom k.positive) h) [
    | inl t ↦
        let found = targets_forth (lit_ways k.positive k.atom) targets t in
        inl (found.0, L found.1, get_image (image_at images) targets found.0 found.1 found.2, lit_forth k.positive k.atom found.1 found.3)
    | inr a ↦ inr (absurd_forth k.atom k.positive a)
  ]

  get_map : (targets : List Lit) (i : ℕ) (l : Lit) → slice_get (map L targets) i ≡ Some l → (k : Lit) × (slice_get targets i ≡ Some k) × (L k ≡ l)
  get_map [] i l e = cc
  get_map (k ∷ targets) zero l e = (k, refl, cc)
  get_map (k ∷ targets) (suc i) l e = get_map targets i l e

  pub cover_back : (targets : List Lit) (k : Lit) → IsCovered (map L targets) (L k) → HasWay images (cover_ways targets k)
  cover_back targets k (inl c) =
      let found = get_map targets c.0 c.1 c.2 in
      has_first (flat_map (lit_ways k.positive k.atom) targets) (absurd_ways k.atom k.positive)
      (targets_back (lit_ways k.positive k.atom) targets c.0 found.0 found.1 (lit_back k.positive k.atom found.0 (subst (λ (l : Lit). IsSame (L k) l) (sym found.2) c.3)))
  cover_back targets k (inr a) = has_second (flat_map (lit_ways k.positive k.atom) targets) (absurd_ways k.atom k.positive) (absurd_back k.atom k.positive a)

  -- the needs of several literals
  pub covers_forth : (targets lits : List Lit) → MeetsNeeds images (cover_needs targets lits) → AreCovered (map L targets) (map L lits)
  covers_forth targets [] h i k e = cc
  covers_forth targets (l ∷ lits) h zero k e = let same : L l ≡ k = cc in subst (λ (x : Lit). IsCovered (map L targets) x) same (cover_forth targets l h.0)
  covers_forth targets (l ∷ lits) h (suc i) k e = covers_forth targets lits h.1 i k e

  pub covers_back : (targets lits : List Lit) → AreCovered (map L targets) (map L lits) → MeetsNeeds images (cover_needs targets lits)
  covers_back targets [] h = tt
  covers_back targets (l ∷ lits) h = (cover_back targets l (h 0 (L l) refl), covers_back targets lits (λ i k e. h (suc i) k e))

  pub needs_parts : (xs ys : List (List (List Pair))) → MeetsNeeds images (xs ++ ys) → MeetsNeeds images xs × MeetsNeeds images ys
  needs_parts [] ys h = (tt, h)
  needs_parts (x ∷ xs) ys h = let rest = needs_parts xs ys h.1 in ((h.0, rest.0), rest.1)

  pub needs_both : (xs ys : List (List (List Pair))) → MeetsNeeds images xs → MeetsNeeds images ys → MeetsNeeds images (xs ++ ys)
  needs_both [] ys h g = g
  needs_both (x ∷ xs) ys h g = (h.0, needs_both xs ys h.1 g)

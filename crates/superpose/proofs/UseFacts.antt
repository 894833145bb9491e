-- Lists of what inferences use, as they grow.
use Rattle.std.specs.Prelude.{ℕ, ◌+◌, ◌<◌, ◌≤◌, ◌≡◌, ◌⊎◌, ◌↔◌, IsTrue, Bool, true, false, List, [], ◌∷◌, ◌++◌, length, Some, slice_get, refl}
use Rattle.std.specs.List.{Contains}
use Rattle.std.proofs.Common.{ap, sym, subst, ◌∙◌, arith, inl, inr}
use Rattle.std.proofs.lemmas.List.Elements.{Contains-push, Contains-push_cases, Contains-append_left}
use Rattle.std.proofs.lemmas.Option.{slice_get_within}
use Rattle.fof_terms.specs.declared.term.Term.{App}
use Rattle.clause_form.specs.declared.clause.Lit.{Lit}
use Rattle.clause_rules.specs.Places.{lit_term_at}
use Rattle.clause_rules.specs.PlaceSearch.{places_of}
use Rattle.clause_rules.specs.Steps.{equation}
use Rattle.clause_rules.proofs.Firsts.{one_at}
use Rattle.clause_rules.proofs.PlaceLaws.{place_listed}
use Rattle.clause_order.specs.Eligible.{IsEligible}
use Rattle.clause_order.proofs.Decided.{truly, untrue}
use Rattle.superpose.specs.declared.used.Side.{Side}
use Rattle.superpose.specs.declared.used.Spot.{Spot}
use Rattle.superpose.specs.declared.used.Used.{Used}
use Rattle.superpose.specs.Used.{AreUsed}
use Rattle.superpose.specs.code.Uses.{Gains, IsSideOf, IsSpotAt, IsSpotOf, UsesSide, UsesSpot, UsesLit}

-- no element has the property
pub gains_none : (X : Type 0) (P : X → Type 0) (list : List X) → ((x : X) → P x → ⊥) → Gains X P list list
gains_none X P list h = record { kept = λ x g. g; each = λ x g. inl g; whole = λ x p. absurd (h x p) }

-- one came that has it, and no other element has it
pub gains_one : (X : Type 0) (P : X → Type 0) (old new : List X) (x : X) → new ≡ old ++ x ∷ [] → P x
    → ((y : X) → P y → y ≡ x) → Gains X P old new
gains_one X P old new x is p only = record {
  kept = λ y h. subst (λ (ys : List X). Contains ys y) (sym is) (Contains-append_left old (x ∷ []) y h);
  each = λ y h. elim (Contains-push_cases old x y (subst (λ (ys : List X). Contains ys y) is h)) [
    | inl a ↦ inl a
    | inr a ↦ inr (subst P a p)
  ];
  whole = λ y q. subst (λ (z : X). Contains new z) (sym (only y q))
      (subst (λ (ys : List X). Contains ys x) (sym is) (Contains-push old x));
}

-- the property, said in another way
pub gains_as : (X : Type 0) (P Q : X → Type 0) (old new : List X) → ((x : X) → P x → Q x) → ((x : X) → Q x → P x)
    → Gains X P old new → Gains X Q old new
gains_as X P Q old new forth back h = record {
  kept = h.kept;
  each = λ x g. elim (h.each x g) [ inl a ↦ inl a | inr a ↦ inr (forth x a) ];
  whole = λ x q. h.whole x (back x q);
}

-- one property after the other
pub gains_both : (X : Type 0) (P Q : X → Type 0) (old mid new : List X) → Gains X P old mid → Gains X Q mid new
    → Gains X (λ x. P x ⊎ Q x) old new
gains_both X P Q old mid new h g = record {
  kept = λ x k. g.kept x (h.kept x k);
  each = λ x k. elim (g.each x k) [
    | inl a ↦ elim (h.each x a) [ inl b ↦ inl b | inr b ↦ inr (inl b) ]
    | inr a ↦ inr (inr a)
  ];
  whole = λ x p. elim p [ inl a ↦ g.kept x (h.whole x a) | inr a ↦ g.whole x a ];
}

below_or_last : (n i : ℕ) → i < n + 1 → (i < n) ⊎ (i ≡ n)
below_or_last n i lt = grind arith

-- one number more
pub gains_next : (X : Type 0) (P : ℕ → X → Type 0) (n : ℕ) (old mid new : List X)
    → Gains X (λ x. (i : ℕ) × (i < n) × P i x) old mid → Gains X (P n) mid new
    → Gains X (λ x. (i : ℕ) × (i < n + 1) × P i x) old new
gains_next X P n old mid new h g =
    gains_as X (λ x. ((i : ℕ) × (i < n) × P i x) ⊎ P n x) (λ x. (i : ℕ) × (i < n + 1) × P i x) old new
    (λ x p. elim p [ inl a ↦ (a.0, (let lt = a.1 in omega arith), a.2) | inr a ↦ (n, omega arith, a) ])
    (λ x p. elim (below_or_last n p.0 p.1) [ inl lt ↦ inl (p.0, lt, p.2) | inr same ↦ inr (subst (λ i. P i x) same p.2) ])
    (gains_both X (λ x. (i : ℕ) × (i < n) × P i x) (P n) old mid new h g)

pub gains_start : (X : Type 0) (P : ℕ → X → Type 0) (list : List X) → Gains X (λ x. (i : ℕ) × (i < 0) × P i x) list list
gains_start X P list = gains_none X (λ x. (i : ℕ) × (i < 0) × P i x) list (λ x p. let lt = p.1 in absurd (omega arith))

-- the first n of these places
abbrev pub IsSpotBelow : Lit → ℕ → List (List ℕ) → ℕ → Spot → Type 0
IsSpotBelow k i places n spot =
    (a : ℕ) × (a < n) × ((place : List ℕ) × (slice_get places a ≡ Some place) × IsSpotAt k i place spot)

pub spots_next : (k : Lit) (i : ℕ) (places : List (List ℕ)) (n : ℕ) (place : List ℕ) (old mid new : List Spot)
    → slice_get places n ≡ Some place → Gains Spot (IsSpotBelow k i places n) old mid
    → Gains Spot (IsSpotAt k i place) mid new → Gains Spot (IsSpotBelow k i places (n + 1)) old new
spots_next k i places n place old mid new at h g =
    gains_next Spot (λ a spot. (q : List ℕ) × (slice_get places a ≡ Some q) × IsSpotAt k i q spot) n old mid new h
    (gains_as Spot (IsSpotAt k i place) (λ spot. (q : List ℕ) × (slice_get places n ≡ Some q) × IsSpotAt k i q spot) mid new
    (λ spot p. (place, at, p)) (λ spot p. subst (λ q. IsSpotAt k i q spot) (one_at places n p.0 place p.1 at) p.2) g)

pub spots_all : (k : Lit) (i : ℕ) (places : List (List ℕ)) (n : ℕ) (old new : List Spot) → places ≡ places_of k
    → length places ≤ n → Gains Spot (IsSpotBelow k i places n) old new → Gains Spot (IsSpotOf k i) old new
spots_all k i places n old new is all h =
    gains_as Spot (IsSpotBelow k i places n) (IsSpotOf k i) old new (λ spot p. (p.2.0, p.2.2)) (λ spot p.
    let listed = place_listed k p.0 (App p.1.1.0 p.1.1.1) p.1.1.2 in
    let there : slice_get places listed.0 ≡ Some p.0 = ap (λ ps. slice_get ps listed.0) is ∙ listed.1 in
    let lt = slice_get_within places listed.0 p.0 there in
    (listed.0, omega (arith, all), (p.0, there, p.1))) h

abbrev side_at : ℕ → Bool → Side
side_at n flipped = record { lit = n; flipped = flipped }

abbrev spot_at : ℕ → List ℕ → Spot
spot_at n place = record { lit = n; place = place }

-- whether the literal is eligible, as its number is read
pub eligible_no : (lits : List Lit) (i at : ℕ) (b : Bool) → at ≡ i → b ≡ false → (IsTrue b ↔ IsEligible lits at) → IsEligible lits i → ⊥
eligible_no lits i at b same is h e = untrue b (IsEligible lits at) is h (subst (IsEligible lits) (sym same) e)

pub eligible_yes : (lits : List Lit) (i at : ℕ) (b : Bool) → at ≡ i → b ≡ true → (IsTrue b ↔ IsEligible lits at) → IsEligible lits i
eligible_yes lits i at b same is h = subst (IsEligible lits) same (truly b (IsEligible lits at) is h)

-- a literal that isn't eligible
pub lit_unused : (lits : List Lit) (i : ℕ) (used : Used) → (IsEligible lits i → ⊥) → UsesLit lits i used used
lit_unused lits i used never = record {
  numbers = gains_none ℕ (λ n. (n ≡ i) × IsEligible lits n) used.lits (λ n p. never (subst (IsEligible lits) p.0 p.1));
  sides = gains_none Side (λ side. (side.lit ≡ i) × UsesSide lits side) used.sides (λ side p. never (subst (IsEligible lits) p.0 p.1.0));
  spots = gains_none Spot (λ spot. (spot.lit ≡ i) × UsesSpot lits spot) used.spots (λ spot p. never (subst (IsEligible lits) p.0 p.1.0));
}

module _ (lits : List Lit) (i : ℕ) (k : Lit) (here : slice_get lits i ≡ Some k) (may : IsEligible lits i) where
  used_side : (flipped : Bool) (side : Side) → IsSideOf k i flipped side → (side.lit ≡ i) × UsesSide lits side
  used_side flipped side p =
      subst (λ (s : Side). (s.lit ≡ i) × UsesSide lits s) (sym p.0)
      (refl, (may, record { l = p.1.0; r = p.1.1; here = here ∙ ap Some p.1.2; not_less = p.1.3 }))

  side_used : (flipped : Bool) (side : Side) → side.flipped ≡ flipped → (side.lit ≡ i) × UsesSide lits side → IsSideOf k i flipped side
  side_used flipped side read p =
      let u = p.1.1 in
      let there : slice_get lits i ≡ Some (equation side.flipped u.l u.r) = ap (slice_get lits) (sym p.0) ∙ u.here in
      let same : k ≡ equation side.flipped u.l u.r = one_at lits i k (equation side.flipped u.l u.r) here there in
      (ap (λ n. side_at n side.flipped) p.0 ∙ ap (side_at i) read, (u.l, u.r, same ∙ ap (λ b. equation b u.l u.r) read, u.not_less))

  pub sides_gained : (old mid new : List Side) → Gains Side (IsSideOf k i false) old mid → Gains Side (IsSideOf k i true) mid new
      → Gains Side (λ side. (side.lit ≡ i) × UsesSide lits side) old new
  sides_gained old mid new h g =
      gains_as Side (λ side. IsSideOf k i false side ⊎ IsSideOf k i true side) (λ side. (side.lit ≡ i) × UsesSide lits side) old new
      (λ side p. elim p [ inl a ↦ used_side false side a | inr a ↦ used_side true side a ])
      (λ side p. elim (either side.flipped) [ inl e ↦ inl (side_used false side e p) | inr e ↦ inr (side_used true side e p) ])
      (gains_both Side (IsSideOf k i false) (IsSideOf k i true) old mid new h g) where
        either : (b : Bool) → (b ≡ false) ⊎ (b ≡ true)
        either false = inl refl
        either true = inr refl

  pub spots_gained : (old new : List Spot) → Gains Spot (IsSpotOf k i) old new → Gains Spot (λ spot. (spot.lit ≡ i) × UsesSpot lits spot) old new
  spots_gained old new h =
      gains_as Spot (IsSpotOf k i) (λ spot. (spot.lit ≡ i) × UsesSpot lits spot) old new
      (λ spot p. subst (λ (s : Spot). (s.lit ≡ i) × UsesSpot lits s) (sym p.1.0)
      (refl, (may, record { target = k; g = p.1.1.0; args = p.1.1.1; here = here; stands = p.1.1.2 })))
      (λ spot p.
      let u = p.1.1 in
      let there : slice_get lits i ≡ Some u.target = ap (slice_get lits) (sym p.0) ∙ u.here in
      let same : k ≡ u.target = one_at lits i k u.target here there in
      (spot.place, (ap (λ n. spot_at n spot.place) p.0, (u.g, u.args, ap (lit_term_at spot.place) same ∙ u.stands)))) h

  pub lit_used : (old : Used) (numbers : List ℕ) (mid sides : List Side) (spots : List Spot) → numbers ≡ old.lits ++ i ∷ []
      → Gains Side (IsSideOf k i false) old.sides mid → Gains Side (IsSideOf k i true) mid sides
      → Gains Spot (IsSpotOf k i) old.spots spots → UsesLit lits i old (record { lits = numbers; sides = sides; spots = spots })
  lit_used old numbers mid sides spots is a b d = record {
    numbers = gains_one ℕ (λ n. (n ≡ i) × IsEligible lits n) old.lits numbers i is (refl, may) (λ n p. p.0);
    sides = sides_gained old.sides mid sides a b;
    spots = spots_gained old.spots spots d;
  }

-- what is used of the first n literals
pub record UsesBelow (lits : List Lit) (n : ℕ) (used : Used) : Type 0 where
  pub numbers : Gains ℕ (λ k. (i : ℕ) × (i < n) × ((k ≡ i) × IsEligible lits k)) [] used.lits
  pub sides : Gains Side (λ side. (i : ℕ) × (i < n) × ((side.lit ≡ i) × UsesSide lits side)) [] used.sides
  pub spots : Gains Spot (λ spot. (i : ℕ) × (i < n) × ((spot.lit ≡ i) × UsesSpot lits spot)) [] used.spots

pub uses_start : (lits : List Lit) (used : Used) → used.lits ≡ [] → used.sides ≡ [] → used.spots ≡ [] → UsesBelow lits 0 used
uses_start lits used a b d = record {
  numbers = subst (λ xs. Gains ℕ (λ k. (i : ℕ) × (i < 0) × ((k ≡ i) × IsEligible lits k)) [] xs) (sym a) (gains_start ℕ (λ i k. (k ≡ i) × IsEligible lits k) []);
  sides = subst (λ xs. Gains Side (λ side. (i : ℕ) × (i < 0) × ((side.lit ≡ i) × UsesSide lits side)) [] xs) (sym b) (gains_start Side (λ i side. (side.lit ≡ i) × UsesSide lits side) []);
  spots = subst (λ xs. Gains Spot (λ spot. (i : ℕ) × (i < 0) × ((spot.lit ≡ i) × UsesSpot lits spot)) [] xs) (sym d) (gains_start Spot (λ i spot. (spot.lit ≡ i) × UsesSpot lits spot) []);
}

pub uses_next : (lits : List Lit) (n : ℕ) (mid new : Used) → UsesBelow lits n mid → UsesLit lits n mid new → UsesBelow lits (n + 1) new
uses_next lits n mid new h g = record {
  numbers = gains_next ℕ (λ i k. (k ≡ i) × IsEligible lits k) n [] mid.lits new.lits h.numbers g.numbers;
  sides = gains_next Side (λ i side. (side.lit ≡ i) × UsesSide lits side) n [] mid.sides new.sides h.sides g.sides;
  spots = gains_next Spot (λ i spot. (spot.lit ≡ i) × UsesSpot lits spot) n [] mid.spots new.spots h.spots g.spots;
}

only_gained : (X : Type 0) (P : X → Type 0) (new : List X) (x : X) → Gains X P [] new → Contains new x → P x
only_gained X P new x h c = elim (h.each x c) [ inl a ↦ (let lt = a.1 in absurd (omega arith)) | inr a ↦ a ]

pub eligible_within : (lits : List Lit) (i : ℕ) → IsEligible lits i → i < length lits
eligible_within lits i (inl p) = slice_get_within lits i p.chosen p.here
eligible_within lits i (inr p) = slice_get_within lits i p.chosen p.here

pub uses_all : (lits : List Lit) (n : ℕ) (used : Used) → length lits ≤ n → UsesBelow lits n used → AreUsed lits used
uses_all lits n used all h =
    let within : (i : ℕ) → IsEligible lits i → i < n = λ i e. (let lt = eligible_within lits i e in omega (arith, all)) in
    record {
      each = λ i c. (only_gained ℕ (λ k. (j : ℕ) × (j < n) × ((k ≡ j) × IsEligible lits k)) used.lits i h.numbers c).2.1;
      whole = λ i e. h.numbers.whole i (i, within i e, (refl, e));
      each_side = λ side c. (only_gained Side (λ s. (j : ℕ) × (j < n) × ((s.lit ≡ j) × UsesSide lits s)) used.sides side h.sides c).2.1;
      whole_sides = λ i flipped e u.
          let side : Side = record { lit = i; flipped = flipped } in
          (side, h.sides.whole side (i, within i e, (refl, (e, u))), refl, refl);
      each_spot = λ spot c. (only_gained Spot (λ s. (j : ℕ) × (j < n) × ((s.lit ≡ j) × UsesSpot lits s)) used.spots spot h.spots c).2.1;
      whole_spots = λ j place e u.
          let spot : Spot = record { lit = j; place = place } in
          (spot, h.spots.whole spot (j, within j e, (refl, (e, u))), refl, refl);
    }

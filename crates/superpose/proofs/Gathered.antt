-- All places of one clause, and of two.
use Rattle.std.specs.Prelude.{ℕ, ◌+◌, ◌<◌, ◌≤◌, ◌≡◌, ◌⊎◌, Bool, true, false, List, ◌++◌, length, map, get_or, Option, Some, None, slice_get, refl}
use Rattle.std.specs.Option.{option_map, option_to_list}
use Rattle.std.proofs.Common.{ap, sym, subst, ◌∙◌, arith, inl, inr}
use Rattle.std.proofs.lemmas.Option.{slice_get_within, slice_get-get_or, slice_get-map, get_or_from_slice_get}
use Rattle.fof_terms.specs.declared.term.Term.{Term, App}
use Rattle.fof_terms.specs.Vocabulary.{Vocabulary}
use Rattle.clause_form.specs.declared.clause.Lit.{Lit}
use Rattle.clause_form.specs.declared.clause.Clause.{Clause}
use Rattle.clause_form.specs.Covers.{lit_apart, scope_of}
use Rattle.clause_rules.specs.Places.{lit_term_at}
use Rattle.clause_rules.specs.Steps.{scope_of_both, equation}
use Rattle.clause_rules.proofs.Firsts.{one_at}
use Rattle.clause_order.specs.Eligible.{IsNotLess}
use Rattle.superpose.specs.declared.made.Made.{Made}
use Rattle.superpose.specs.declared.used.Side.{Side}
use Rattle.superpose.specs.declared.used.Used.{Used}
use Rattle.superpose.specs.Drafts.{Draft}
use Rattle.superpose.specs.Inferences.{SuperposesAt, FactorsAt, ResolvesEquationAt, FactorsEquationsAt, IsDraftOfOne, IsDraftOfTwo}
use Rattle.superpose.specs.Made.{IsBestAt, Adds}
use Rattle.superpose.specs.Used.{AreUsed, IsUsedPlace}
use Rattle.superpose.specs.code.Listed.{OfSome, ResolvesAmong, SuperposesAmong}
use Rattle.superpose.specs.code.Places.{FactorsRead, FactorsPair, FactorsBelow, FactorsWithSome, FromLit}
use Rattle.superpose.specs.code.Uses.{UsesSide}
use Rattle.superpose.proofs.Additions.{adds_as, adds_both, adds_found, adds_next, adds_start}
use Rattle.superpose.proofs.Below.{OfFirst}
use Rattle.superpose.proofs.Factored.{same_sides}
use Rattle.superpose.proofs.Superposed.{stood_at, was_app}

pick : (P : Bool → Type 0) (b : Bool) → P b → P false ⊎ P true
pick P false x = inl x
pick P true x = inr x

module _ (v : Vocabulary) (scope : List ℕ) (X : Type 0) (P : X → Draft → Type 0) (xs : List X) where
  -- one element more
  pub element_added : (n : ℕ) (d : X) (old mid new : List Made) → n < length xs → Adds v scope (OfFirst X P xs n) old mid
      → Adds v scope (P (get_or xs n d)) mid new → Adds v scope (OfFirst X P xs (n + 1)) old new
  element_added n d old mid new lt h g =
      let x = get_or xs n d in
      let at : slice_get xs n ≡ Some x = slice_get-get_or xs n d lt in
      adds_next v scope (λ k f. (y : X) × (slice_get xs k ≡ Some y) × P y f) n old mid new h
      (adds_as v scope (P x) (λ f. (y : X) × (slice_get xs n ≡ Some y) × P y f) mid new
      (λ f p. (x, at, p)) (λ f p. subst (λ y. P y f) (one_at xs n p.0 x p.1 at) p.2) g)

  -- the same of an element that was lent
  pub element_lent : (n : ℕ) (x : X) (old mid new : List Made) → n < length xs → x ≡ get_or xs n x → Adds v scope (OfFirst X P xs n) old mid
      → Adds v scope (P x) mid new → Adds v scope (OfFirst X P xs (n + 1)) old new
  element_lent n x old mid new lt is h g = element_added n x old mid new lt h (subst (λ y. Adds v scope (P y) mid new) is g)

  pub no_element : (list : List Made) → Adds v scope (OfFirst X P xs 0) list list
  no_element list = adds_start v scope (λ k f. (y : X) × (slice_get xs k ≡ Some y) × P y f) list

  -- all elements
  pub elements_added : (n : ℕ) (old new : List Made) → length xs ≤ n → Adds v scope (OfFirst X P xs n) old new
      → Adds v scope (OfSome X P xs) old new
  elements_added n old new all h =
      adds_as v scope (OfFirst X P xs n) (OfSome X P xs) old new
      (λ f p. (p.2.0, (p.0, slice_get_within xs p.0 p.2.0 p.2.1, get_or_from_slice_get xs p.0 p.2.0 p.2.0 p.2.1), p.2.2))
      (λ f p. let lt = p.1.1 in (p.1.0, omega (arith, all), (p.0, slice_get-get_or xs p.1.0 p.0 p.1.1 ∙ ap Some p.1.2, p.2))) h

module _ (v : Vocabulary) (c : Clause) where
  pub equations_added : (i : ℕ) (flipped : Bool) (j : ℕ) (old mid new : List Made) (first second : Option Made) → IsBestAt v (scope_of c) (FactorsEquationsAt c i flipped j false) first → mid ≡ old ++ option_to_list first
      → IsBestAt v (scope_of c) (FactorsEquationsAt c i flipped j true) second → new ≡ mid ++ option_to_list second → Adds v (scope_of c) (FactorsRead c i flipped j) old new
  equations_added i flipped j old mid new first second a mid_is b new_is =
      adds_as v (scope_of c) (λ f. FactorsEquationsAt c i flipped j false f ⊎ FactorsEquationsAt c i flipped j true f) (FactorsRead c i flipped j) old new
      (λ f p. elim p [ inl x ↦ (false, x) | inr x ↦ (true, x) ]) (λ f p. pick (λ b. FactorsEquationsAt c i flipped j b f) p.0 p.1)
      (adds_both v (scope_of c) (FactorsEquationsAt c i flipped j false) (FactorsEquationsAt c i flipped j true) old mid new
      (adds_found v (scope_of c) (FactorsEquationsAt c i flipped j false) old mid first a mid_is) (adds_found v (scope_of c) (FactorsEquationsAt c i flipped j true) mid new second b new_is))

  pub pair_added : (i j : ℕ) (old mid next new : List Made) (found : Option Made) → IsBestAt v (scope_of c) (FactorsAt c i j) found → mid ≡ old ++ option_to_list found
      → Adds v (scope_of c) (FactorsRead c i false j) mid next → Adds v (scope_of c) (FactorsRead c i true j) next new → Adds v (scope_of c) (FactorsPair c i j) old new
  pair_added i j old mid next new found a mid_is b d =
      adds_as v (scope_of c) (λ f. FactorsAt c i j f ⊎ (FactorsRead c i false j f ⊎ FactorsRead c i true j f)) (FactorsPair c i j) old new
      (λ f p. elim p [ inl x ↦ inl x | inr x ↦ elim x [ inl y ↦ inr (false, y) | inr y ↦ inr (true, y) ] ])
      (λ f p. elim p [ inl x ↦ inl x | inr x ↦ inr (pick (λ b. FactorsRead c i b j f) x.0 x.1) ])
      (adds_both v (scope_of c) (FactorsAt c i j) (λ f. FactorsRead c i false j f ⊎ FactorsRead c i true j f) old mid new (adds_found v (scope_of c) (FactorsAt c i j) old mid found a mid_is)
      (adds_both v (scope_of c) (FactorsRead c i false j) (FactorsRead c i true j) mid next new b d))

  pair_within : (i j : ℕ) (f : Draft) → FactorsPair c i j f → j < length c.lits
  pair_within i j f (inl p) = slice_get_within c.lits j _ p.there
  pair_within i j f (inr p) = slice_get_within c.lits j _ p.1.1.there

  pub factored_added : (i n : ℕ) (old new : List Made) → length c.lits ≤ n → Adds v (scope_of c) (FactorsBelow c i n) old new → Adds v (scope_of c) (FactorsWithSome c i) old new
  factored_added i n old new all h =
      adds_as v (scope_of c) (FactorsBelow c i n) (FactorsWithSome c i) old new (λ f p. (p.0, pair_within i p.0 f p.2, p.2)) (λ f p. (p.0, (let lt = p.1 in omega (arith, all)), p.2)) h

  pub lit_added : (i : ℕ) (old mid new : List Made) → Adds v (scope_of c) (ResolvesEquationAt c i) old mid → Adds v (scope_of c) (FactorsWithSome c i) mid new → Adds v (scope_of c) (FromLit c i) old new
  lit_added i old mid new a b = adds_both v (scope_of c) (ResolvesEquationAt c i) (FactorsWithSome c i) old mid new a b

  to_one : (numbers : List ℕ) (f : Draft) → OfSome ℕ (FromLit c) numbers f → IsDraftOfOne c f
  to_one numbers f (i, there, inl e) = inr (inl (record { i = i; at = e }))
  to_one numbers f (i, there, inr (j, below, inl a)) = inl (record { i = i; j = j; at = a })
  to_one numbers f (i, there, inr (j, below, inr (first, (second, x)))) = inr (inr (record { i = i; first_flipped = first; j = j; second_flipped = second; at = x }))

  from_one : (used : Used) → AreUsed c.lits used → (f : Draft) → IsDraftOfOne c f → OfSome ℕ (FromLit c) used.lits f
  from_one used are f (inl p) = (p.i, are.whole p.i p.at.first, inr (p.j, slice_get_within c.lits p.j _ p.at.there, inl p.at))
  from_one used are f (inr (inl p)) = (p.i, are.whole p.i p.at.first, inl p.at)
  from_one used are f (inr (inr p)) = (p.i, are.whole p.i p.at.first, inr (p.j, slice_get_within c.lits p.j _ p.at.there, inr (p.first_flipped, (p.second_flipped, p.at))))

  pub all_from_one : (used : Used) (old new : List Made) → AreUsed c.lits used → Adds v (scope_of c) (OfSome ℕ (FromLit c) used.lits) old new → Adds v (scope_of c) (IsDraftOfOne c) old new
  all_from_one used old new are h = adds_as v (scope_of c) (OfSome ℕ (FromLit c) used.lits) (IsDraftOfOne c) old new (to_one used.lits) (from_one used are) h

-- a literal of a clause that is kept apart was one before
was_at : (n : ℕ) (lits : List Lit) (j : ℕ) (target : Lit) → slice_get (map (lit_apart n) lits) j ≡ Some target → (k : Lit) × (slice_get lits j ≡ Some k) × (lit_apart n k ≡ target)
was_at n lits j target e = go (slice_get lits j) refl (sym (slice_get-map (lit_apart n) lits j) ∙ e) where
  go : (o : Option Lit) → slice_get lits j ≡ o → option_map (lit_apart n) o ≡ Some target → (k : Lit) × (slice_get lits j ≡ Some k) × (lit_apart n k ≡ target)
  go None is h = cc
  go (Some k) is h = (k, is, cc)

module _ (v : Vocabulary) (c d : Clause) where
  abbrev scope : List ℕ
  scope = scope_of_both c d

  to_two : (one other : Used) (f : Draft) → ResolvesAmong c d one.lits other.lits f ⊎ SuperposesAmong c d one.sides other.spots f → IsDraftOfTwo c d f
  to_two one other f (inl (i, there, (j, also, p))) = inl (record { i = i; j = j; at = p })
  to_two one other f (inr (side, there, (spot, also, p))) = inr (record { i = side.lit; flipped = side.flipped; j = spot.lit; place = spot.place; at = p })

  place_used : (i : ℕ) (flipped : Bool) (j : ℕ) (place : List ℕ) (f : Draft) → SuperposesAt c d i flipped j place f → IsUsedPlace d.lits j place
  place_used i flipped j place f p =
      let n = length c.sorts in
      let was = was_at n d.lits j p.target p.there in
      let stood = stood_at n place was.0 (App p.g p.args) (ap (lit_term_at place) was.2 ∙ p.stands) in
      let app = was_app n stood.0 p.g p.args stood.2 in
      record { target = was.0; g = p.g; args = app.0; here = was.1; stands = stood.1 ∙ ap Some app.1 }

  superposes_as : (i k : ℕ) (flipped read : Bool) (j m : ℕ) (place at : List ℕ) (f : Draft) → k ≡ i → read ≡ flipped → m ≡ j → at ≡ place → SuperposesAt c d i flipped j place f → SuperposesAt c d k read m at f
  superposes_as i k flipped read j m place at f a b e g p =
      subst (λ x. SuperposesAt c d k read m x f) (sym g) (subst (λ x. SuperposesAt c d k read x place f) (sym e)
      (subst (λ x. SuperposesAt c d k x j place f) (sym b) (subst (λ x. SuperposesAt c d x flipped j place f) (sym a) p)))

  from_two : (one other : Used) → AreUsed c.lits one → AreUsed d.lits other → (f : Draft) → IsDraftOfTwo c d f → ResolvesAmong c d one.lits other.lits f ⊎ SuperposesAmong c d one.sides other.spots f
  from_two one other are also f (inl p) = inl (p.i, are.whole p.i p.at.first, (p.j, also.whole p.j p.at.second, p.at))
  from_two one other are also f (inr p) =
      let side = are.whole_sides p.i p.flipped p.at.first (record { l = p.at.l; r = p.at.r; here = p.at.here; not_less = p.at.not_less }) in
      let spot = also.whole_spots p.j p.place p.at.second (place_used p.i p.flipped p.j p.place f p.at) in
      inr (side.0, side.1, (spot.0, spot.1, superposes_as p.i side.0.lit p.flipped side.0.flipped p.j spot.0.lit p.place spot.0.place f side.2 side.3 spot.2 spot.3 p.at))

  pub all_from_two : (one other : Used) (old mid new : List Made) → AreUsed c.lits one → AreUsed d.lits other → Adds v scope (ResolvesAmong c d one.lits other.lits) old mid
      → Adds v scope (SuperposesAmong c d one.sides other.spots) mid new → Adds v scope (IsDraftOfTwo c d) old new
  all_from_two one other old mid new are also h g =
      adds_as v scope (λ f. ResolvesAmong c d one.lits other.lits f ⊎ SuperposesAmong c d one.sides other.spots f) (IsDraftOfTwo c d) old new
      (to_two one other) (from_two one other are also) (adds_both v scope (ResolvesAmong c d one.lits other.lits) (SuperposesAmong c d one.sides other.spots) old mid new h g)

-- a side that is used isn't less than the other one
pub side_not_less : (lits : List Lit) (side : Side) → UsesSide lits side → (l r : Term) → slice_get lits side.lit ≡ Some (equation side.flipped l r) → IsNotLess l r
side_not_less lits side uses l r there =
    let u = uses.1 in
    let sides = same_sides side.flipped u.l u.r l r (one_at lits side.lit (equation side.flipped u.l u.r) (equation side.flipped l r) u.here there) in
    subst (λ x. IsNotLess x r) sides.0 (subst (IsNotLess u.l) sides.1 u.not_less)

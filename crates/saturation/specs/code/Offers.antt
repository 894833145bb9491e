-- The terms of a clause that an index has: the predicate atoms of literals, the sides of equations, the terms below.
use Rattle.std.specs.Prelude.{ℕ, Bool, true, false, List, slice_get, Option, Some, None, option_to_list}
use Rattle.std.specs.List.{flat_map}
use Rattle.fof_terms.specs.declared.term.Term.{Term, App}
use Rattle.clause_form.specs.declared.clause.AtomOf.{AtomOf}
use Rattle.clause_form.specs.declared.clause.AtomOf.TheVariants.{Pred, Eq, True, False}
use Rattle.clause_form.specs.declared.clause.Lit.{Lit}
use Rattle.clause_rules.specs.Places.{lit_term_at}
use Rattle.superpose.specs.declared.used.Side.{Side}
use Rattle.superpose.specs.declared.used.Spot.{Spot}
use Rattle.saturation.specs.declared.offers.Offer.{Offer}

abbrev pub on_lit : (Lit → Option Offer) → Option Lit → Option Offer
on_lit f None = None
on_lit f (Some l) = f l

abbrev pub offer_of_atom : Bool → AtomOf → Option Offer
offer_of_atom positive (Pred p ts) = Some (record { positive = positive; term = App p ts })
offer_of_atom positive (Eq l r) = None
offer_of_atom positive True = None
offer_of_atom positive False = None

abbrev pub atom_at : List Lit → ℕ → Option Offer
atom_at lits i = on_lit (λ l. offer_of_atom l.positive l.atom) (slice_get lits i)

abbrev pub offer_of_side : Bool → AtomOf → Option Offer
offer_of_side false (Eq l r) = Some (record { positive = true; term = l })
offer_of_side true (Eq l r) = Some (record { positive = true; term = r })
offer_of_side flipped (Pred p ts) = None
offer_of_side flipped True = None
offer_of_side flipped False = None

abbrev pub side_at : List Lit → Side → Option Offer
side_at lits side = on_lit (λ l. offer_of_side side.flipped l.atom) (slice_get lits side.lit)

abbrev pub offer_of : Bool → Option Term → Option Offer
offer_of positive None = None
offer_of positive (Some t) = Some (record { positive = positive; term = t })

abbrev pub spot_at : List Lit → Spot → Option Offer
spot_at lits spot = on_lit (λ l. offer_of false (lit_term_at spot.place l)) (slice_get lits spot.lit)

abbrev pub atom_offers : List Lit → List ℕ → List Offer
atom_offers lits numbers = flat_map (λ i. option_to_list (atom_at lits i)) numbers

abbrev pub side_offers : List Lit → List Side → List Offer
side_offers lits sides = flat_map (λ s. option_to_list (side_at lits s)) sides

abbrev pub spot_offers : List Lit → List Spot → List Offer
spot_offers lits spots = flat_map (λ s. option_to_list (spot_at lits s)) spots

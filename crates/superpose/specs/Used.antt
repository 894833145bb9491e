-- What inferences use of a clause: its eligible literals, the sides of its equations, and the places in its literals.
use Rattle.std.specs.Prelude.{ℕ, Bool, ◌≡◌, List, Some, slice_get}
use Rattle.std.specs.List.{Contains}
use Rattle.fof_terms.specs.declared.term.Term.{Term, App}
use Rattle.clause_form.specs.declared.clause.Lit.{Lit}
use Rattle.clause_rules.specs.Places.{lit_term_at}
use Rattle.clause_rules.specs.Steps.{equation}
use Rattle.clause_order.specs.Eligible.{IsEligible, IsNotLess}
use Rattle.superpose.specs.declared.used.Side.{Side}
use Rattle.superpose.specs.declared.used.Spot.{Spot}
use Rattle.superpose.specs.declared.used.Used.{Used}

-- from this side the literal is a positive equation, and the side is not less than the other one
pub record IsUsedSide (lits : List Lit) (i : ℕ) (flipped : Bool) : Type 0 where
  pub l : Term
  pub r : Term
  pub here : slice_get lits i ≡ Some (equation flipped l r)
  pub not_less : IsNotLess l r

-- a term that is no variable stands at the place of the literal
pub record IsUsedPlace (lits : List Lit) (j : ℕ) (place : List ℕ) : Type 0 where
  pub target : Lit
  pub g : ℕ
  pub args : List Term
  pub here : slice_get lits j ≡ Some target
  pub stands : lit_term_at place target ≡ Some (App g args)

-- these are the eligible literals, the sides of the equations among them that are not less than the other one, and the
-- places in them at which no variable stands
pub record AreUsed (lits : List Lit) (used : Used) : Type 0 where
  pub each : (i : ℕ) → Contains used.lits i → IsEligible lits i
  pub whole : (i : ℕ) → IsEligible lits i → Contains used.lits i
  pub each_side : (side : Side) → Contains used.sides side → IsEligible lits side.lit
      × IsUsedSide lits side.lit side.flipped
  pub whole_sides : (i : ℕ) (flipped : Bool) → IsEligible lits i → IsUsedSide lits i flipped → (side : Side)
      × Contains used.sides side × (side.lit ≡ i) × (side.flipped ≡ flipped)
  pub each_spot : (spot : Spot) → Contains used.spots spot → IsEligible lits spot.lit
      × IsUsedPlace lits spot.lit spot.place
  pub whole_spots : (j : ℕ) (place : List ℕ) → IsEligible lits j → IsUsedPlace lits j place → (spot : Spot)
      × Contains used.spots spot × (spot.lit ≡ j) × (spot.place ≡ place)

-- How the lists of what inferences use of a clause grow, literal by literal.
use Rattle.std.specs.Prelude.{ℕ, Bool, ◌≡◌, ◌⊎◌, List, Some}
use Rattle.std.specs.List.{Contains}
use Rattle.fof_terms.specs.declared.term.Term.{Term, App}
use Rattle.clause_form.specs.declared.clause.Lit.{Lit}
use Rattle.clause_rules.specs.Places.{lit_term_at}
use Rattle.clause_rules.specs.Steps.{equation}
use Rattle.clause_order.specs.Eligible.{IsEligible, IsNotLess}
use Rattle.superpose.specs.declared.used.Side.{Side}
use Rattle.superpose.specs.declared.used.Spot.{Spot}
use Rattle.superpose.specs.declared.used.Used.{Used}
use Rattle.superpose.specs.Used.{IsUsedSide, IsUsedPlace}

-- exactly what has the property came to the list
pub record Gains (X : Type 0) (P : X → Type 0) (old new : List X) : Type 0 where
  pub kept : (x : X) → Contains old x → Contains new x
  pub each : (x : X) → Contains new x → Contains old x ⊎ P x
  pub whole : (x : X) → P x → Contains new x

-- the literal, read so, is a positive equation whose side is not less than the other one
abbrev pub IsUsedAs : Lit → Bool → Type 0
IsUsedAs k flipped = (l : Term) × (r : Term) × (k ≡ equation flipped l r) × IsNotLess l r

-- a term that is no variable stands at the place of the literal
abbrev pub HasUsed : Lit → List ℕ → Type 0
HasUsed k place = (g : ℕ) × (args : List Term) × (lit_term_at place k ≡ Some (App g args))

-- it is literal i, read so, and is used
abbrev pub IsSideOf : Lit → ℕ → Bool → Side → Type 0
IsSideOf k i flipped side = (side ≡ record { lit = i; flipped = flipped }) × IsUsedAs k flipped

-- it is the place of literal i, and is used
abbrev pub IsSpotAt : Lit → ℕ → List ℕ → Spot → Type 0
IsSpotAt k i place spot = (spot ≡ record { lit = i; place = place }) × HasUsed k place

-- it is some place of literal i that is used
abbrev pub IsSpotOf : Lit → ℕ → Spot → Type 0
IsSpotOf k i spot = (place : List ℕ) × IsSpotAt k i place spot

-- inferences use the side, or the place
abbrev pub UsesSide : List Lit → Side → Type 0
UsesSide lits side = IsEligible lits side.lit × IsUsedSide lits side.lit side.flipped

abbrev pub UsesSpot : List Lit → Spot → Type 0
UsesSpot lits spot = IsEligible lits spot.lit × IsUsedPlace lits spot.lit spot.place

-- what is used of literal i came to the others
pub record UsesLit (lits : List Lit) (i : ℕ) (old new : Used) : Type 0 where
  pub numbers : Gains ℕ (λ n. (n ≡ i) × IsEligible lits n) old.lits new.lits
  pub sides : Gains Side (λ side. (side.lit ≡ i) × UsesSide lits side) old.sides new.sides
  pub spots : Gains Spot (λ spot. (spot.lit ≡ i) × UsesSpot lits spot) old.spots new.spots

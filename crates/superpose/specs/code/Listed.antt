-- The drafts at some of the places of a list, as the code goes through it.
use Rattle.std.specs.Prelude.{ℕ, List}
use Rattle.std.specs.List.{Contains}
use Rattle.clause_form.specs.declared.clause.Clause.{Clause}
use Rattle.clause_form.specs.declared.clause.Lit.{Lit}
use Rattle.clause_order.specs.Eligible.{IsEligible}
use Rattle.superpose.specs.declared.used.Side.{Side}
use Rattle.superpose.specs.declared.used.Spot.{Spot}
use Rattle.superpose.specs.Drafts.{Draft}
use Rattle.superpose.specs.Inferences.{ResolvesAt, SuperposesAt}
use Rattle.superpose.specs.code.Uses.{UsesSide, UsesSpot}

-- the drafts of some element of the list
abbrev pub OfSome : (X : Type 0) → (X → Draft → Type 0) → List X → Draft → Type 0
OfSome X P xs f = (x : X) × Contains xs x × P x f

-- each of the literals is eligible, each side is used, and each place
abbrev pub AreEligible : List Lit → List ℕ → Type 0
AreEligible lits numbers = (i : ℕ) → Contains numbers i → IsEligible lits i

abbrev pub AreUsedSides : List Lit → List Side → Type 0
AreUsedSides lits sides = (side : Side) → Contains sides side → UsesSide lits side

abbrev pub AreUsedSpots : List Lit → List Spot → Type 0
AreUsedSpots lits spots = (spot : Spot) → Contains spots spot → UsesSpot lits spot

-- resolution of literal i with one of the literals of these numbers, and of one with one
abbrev pub ResolvesWith : Clause → Clause → List ℕ → ℕ → Draft → Type 0
ResolvesWith c d numbers i f = OfSome ℕ (λ j. ResolvesAt c d i j) numbers f

abbrev pub ResolvesAmong : Clause → Clause → List ℕ → List ℕ → Draft → Type 0
ResolvesAmong c d firsts seconds f = OfSome ℕ (ResolvesWith c d seconds) firsts f

-- superposition from the side at one of the places, and from one of the sides
abbrev pub SuperposesFrom : Clause → Clause → List Spot → Side → Draft → Type 0
SuperposesFrom c d spots side f =
    OfSome Spot (λ (spot : Spot). SuperposesAt c d side.lit side.flipped spot.lit spot.place) spots f

abbrev pub SuperposesAmong : Clause → Clause → List Side → List Spot → Draft → Type 0
SuperposesAmong c d sides spots f = OfSome Side (SuperposesFrom c d spots) sides f

-- The places of literals that are known.
use Rattle.std.specs.Prelude.{ℕ, ◌≡◌, ◌++◌, ◌∷◌, [], ◌⊎◌, Bool, true, false, List, length, Option, Some, None, slice_get}
use Rattle.std.specs.List.{Contains}
use Rattle.clause_form.specs.declared.clause.Lit.{Lit}

-- the literal was added, or was there before
abbrev pub Adds : Bool → List Lit → Lit → List Lit → Type 0
Adds true old l new = new ≡ old ++ l ∷ []
Adds false old l new = (new ≡ old) × Contains old l

-- the place of the literal, or the next one if it is not there
abbrev pub IsPlaceOrNext : List Lit → Lit → ℕ → Type 0
IsPlaceOrNext lits l place = (slice_get lits place ≡ Some l) ⊎ ((Contains lits l → ⊥) × (place ≡ length lits))

-- the place of the literal, if it is there
abbrev pub IsPlace : List Lit → Lit → Option ℕ → Type 0
IsPlace lits l None = Contains lits l → ⊥
IsPlace lits l (Some place) = slice_get lits place ≡ Some l

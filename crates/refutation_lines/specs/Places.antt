-- Where clauses stand among those of a derivation: the inputs that are printed in the order of the inputs, and then the
-- needed members that are inferred in the order of the list.
use Rattle.std.specs.Prelude.{ℕ, ◌+◌, ◌==◌, ◌&&◌, nat_lt, Bool, true, false, if◌then◌else◌, List, [], ◌∷◌, get_or}
use Rattle.saturation.specs.declared.member.Member.{Member}
use Rattle.saturation.specs.declared.member.Origin.{Origin}
use Rattle.saturation.specs.declared.member.Origin.TheVariants.{Input, Inferred}

-- the place behind
abbrev pub behind : ℕ → Bool → ℕ
behind k b = if b then k + 1 else k

-- how many marks stand before each place, and before the end
abbrev pub ranks_from : ℕ → List Bool → List ℕ
ranks_from k [] = k ∷ []
ranks_from k (b ∷ marks) = k ∷ ranks_from (behind k b) marks

abbrev pub is_inferred : Origin → Bool
is_inferred (Input i) = false
is_inferred (Inferred a b images) = true

-- an input stands at its rank, and what is inferred at the next place
abbrev pub place_of : List ℕ → ℕ → Origin → ℕ
place_of ranks next (Input i) = get_or ranks i 0
place_of ranks next (Inferred a b images) = next

-- the place of each member; the next inferred one that is needed stands at the place k
abbrev pub places_from : List ℕ → ℕ → List Bool → List Member → List ℕ
places_from ranks k [] members = []
places_from ranks k (b ∷ needed) [] = []
places_from ranks k (b ∷ needed) (m ∷ members) = place_of ranks k m.origin ∷ places_from ranks (behind k (is_inferred m.origin && b)) needed members

-- two places, the earlier one first, and one place alone
abbrev pub in_order : ℕ → ℕ → List ℕ
in_order a b = if a == b then a ∷ [] else (if nat_lt a b then a ∷ b ∷ [] else b ∷ a ∷ [])

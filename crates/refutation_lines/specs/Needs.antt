-- What a derivation prints and uses, by the members that the refutation needs.
use Rattle.std.specs.Prelude.{ℕ, ◌==◌, Bool, false, List, [], ◌∷◌, ◌++◌, map, get_or}
use Rattle.std.specs.List.{list_any, range_with_len}
use Rattle.saturation.specs.declared.member.Member.{Member}
use Rattle.saturation.specs.declared.member.Origin.{Origin}
use Rattle.saturation.specs.declared.member.Origin.TheVariants.{Input, Inferred}
use Rattle.given_parts.specs.Chosen.{chosen}

-- whether each of the first so many numbers passes
abbrev pub each_below : (ℕ → Bool) → ℕ → List Bool
each_below passes n = map passes (range_with_len 0 n)

abbrev pub is_input : ℕ → Origin → Bool
is_input k (Input i) = i == k
is_input k (Inferred a b images) = false

-- input k is printed where a needed member is it
abbrev pub prints_input : List Bool → List Member → ℕ → Bool
prints_input needed members k = list_any (is_input k) (chosen (λ j (m : Member). m.origin ∷ []) needed members)

-- of so many inputs
abbrev pub printed_inputs : List Bool → List Member → ℕ → List Bool
printed_inputs needed members n = each_below (prints_input needed members) n

-- the part of an input
abbrev pub owner_of : List ℕ → Origin → List ℕ
owner_of owners (Input i) = get_or owners i 0 ∷ []
owner_of owners (Inferred a b images) = []

-- part k is used where a printed input, or the last clause, is of it
abbrev pub uses_part : List ℕ → List Bool → Origin → ℕ → Bool
uses_part owners printed last k = list_any (λ owner. owner == k) (chosen (λ i owner. owner ∷ []) printed owners ++ owner_of owners last)

-- of so many parts
abbrev pub used_parts : List ℕ → List Bool → Origin → ℕ → List Bool
used_parts owners printed last n = each_below (uses_part owners printed last) n

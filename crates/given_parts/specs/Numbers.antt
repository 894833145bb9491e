-- The numbers of these functions: they stand one behind the other, and a part that is not used has none.
use Rattle.std.specs.Prelude.{ℕ, ◌+◌, Bool, if◌then◌else◌, List, [], ◌∷◌, ◌++◌}
use Rattle.std.specs.List.{range_with_len}
use Rattle.given_parts.specs.declared.part.Part.{Part}
use Rattle.given_parts.specs.Parts.{ex_count_of}

-- the first number behind those of the part
abbrev pub next_behind : ℕ → Bool → Part → ℕ
next_behind k b p = if b then k + ex_count_of p else k

-- for each part the number of its first function
abbrev pub firsts_from : ℕ → List Bool → List Part → List ℕ
firsts_from k [] parts = []
firsts_from k (b ∷ used) [] = []
firsts_from k (b ∷ used) (p ∷ parts) = k ∷ firsts_from (next_behind k b p) used parts

-- for each existential quantifier of all parts the number of its function, as if its part were used
abbrev pub numbers_from : ℕ → List Bool → List Part → List ℕ
numbers_from k [] parts = []
numbers_from k (b ∷ used) [] = []
numbers_from k (b ∷ used) (p ∷ parts) = range_with_len k (ex_count_of p) ++ numbers_from (next_behind k b p) used parts

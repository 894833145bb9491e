-- How many underscores a prefix must have.
use Rattle.std.specs.Prelude.{ℕ, ◌+◌, ◌==◌, ◌&&◌, Bool, if◌then◌else◌, List, [], ◌∷◌}
use Rattle.std.specs.List.{prefix_len}

abbrev pub is_underscore : ℕ → Bool
is_underscore byte = byte == 95

-- one more than stand in the name behind `sk`, where it begins so: then it begins with no prefix of so many
abbrev pub wanted : List ℕ → ℕ
wanted [] = 0
wanted (s ∷ []) = 0
wanted (s ∷ k ∷ rest) = if s == 115 && k == 107 then 1 + prefix_len is_underscore rest else 0

-- Lists of elements in the order of a table: the last element moves fastest.
use Rattle.std.specs.Prelude.{ℕ, ◌+◌, ◌*◌, ◌&&◌, nat_lt, Bool, true, false, List, [], ◌∷◌}

-- how many lists of elements there are, with so many elements at each place
abbrev pub cells : List ℕ → ℕ
cells [] = 1
cells (n ∷ sizes) = n * cells sizes

-- the elements are there
abbrev pub are_within : List ℕ → List ℕ → Bool
are_within [] [] = true
are_within [] (x ∷ xs) = false
are_within (n ∷ sizes) [] = false
are_within (n ∷ sizes) (x ∷ xs) = nat_lt x n && are_within sizes xs

-- the number of lists before this one
abbrev pub cell : List ℕ → List ℕ → ℕ
cell [] xs = 0
cell (n ∷ sizes) [] = 0
cell (n ∷ sizes) (x ∷ xs) = x * cells sizes + cell sizes xs

-- What the marked elements of a list give, in order.
use Rattle.std.specs.Prelude.{ℕ, ◌+◌, Bool, if◌then◌else◌, List, [], ◌∷◌, ◌++◌}

-- each gives something by its number; the first has number k
abbrev pub chosen_from : {X Y : Type 0} → ℕ → (ℕ → X → List Y) → List Bool → List X → List Y
chosen_from k give [] xs = []
chosen_from k give (b ∷ marks) [] = []
chosen_from k give (b ∷ marks) (x ∷ xs) = (if b then give k x else []) ++ chosen_from (k + 1) give marks xs

abbrev pub chosen : {X Y : Type 0} → (ℕ → X → List Y) → List Bool → List X → List Y
chosen give marks xs = chosen_from 0 give marks xs

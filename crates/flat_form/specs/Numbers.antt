-- New numbers for the free variables of a formula: the nearest ones get those of a list.
use Rattle.std.specs.Prelude.{ℕ, ◌+◌, ◌-◌, ◌<◌, ◌≤◌, ◌^◌, ◌⊎◌, nat_lt, if◌then◌else◌, List, length, slice_index}

-- the nearest variables have the numbers of the list, the last of which is that of variable 0; the others follow
-- `outside`
abbrev pub listed : List ℕ → ℕ → ℕ → ℕ
listed numbers outside k = if nat_lt k (length numbers) then slice_index numbers (length numbers - 1 - k) else k - length numbers + outside

-- the variables that are not listed get no greater numbers, or these stay within what a number can be
abbrev pub HasRoom : ℕ → ℕ → ℕ → Type 0
HasRoom outside listed reach = (outside ≤ listed) ⊎ (reach < 2 ^ 32)

-- and there are not too many binders
abbrev pub HasRoomAt : ℕ → ℕ → ℕ → ℕ → Type 0
HasRoomAt outside listed deepest reach = (deepest < 2147483648) × HasRoom outside listed reach

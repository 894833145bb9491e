-- Nothing public rests on this: variables are counted one after the other, from the least on.
use Rattle.std.specs.Prelude.{ℕ, ◌<◌, ◌≤◌, ◌≡◌, Option, None, Some}

-- no variable from this number on counts, or none before the next
abbrev pub IsNext : (ℕ → ℕ) → ℕ → Option ℕ → Type 0
IsNext counts from None = (x : ℕ) → from ≤ x → counts x ≡ 0
IsNext counts from (Some y) = (from ≤ y) × ((x : ℕ) → from ≤ x → x < y → counts x ≡ 0)

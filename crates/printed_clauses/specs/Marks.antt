-- Marks of numbers: which ones pass a test.
use Rattle.std.specs.Prelude.{ℕ, ◌≡◌, ◌<◌, ◌||◌, Bool, List, length, get_or, false}

-- the place is there and marked
abbrev pub is_marked : List Bool → ℕ → Bool
is_marked marks k = get_or marks k false

-- so many places, none of which is marked
pub record AreUnmarked (n : ℕ) (marks : List Bool) : Type 0 where
  pub count : length marks ≡ n
  pub none : (k : ℕ) → is_marked marks k ≡ false

-- the places of the numbers that pass are marked beside those that were, and no others
pub record Marks (passes : ℕ → Bool) (old new : List Bool) : Type 0 where
  pub count : length new ≡ length old
  pub each : (k : ℕ) → k < length old → is_marked new k ≡ (is_marked old k || passes k)

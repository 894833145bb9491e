-- How marks change.
use Rattle.std.specs.Prelude.{ℕ, ◌≡◌, ◌<◌, ◌||◌, Bool, List, length}
use Rattle.proof_check.specs.Uses.{is_marked}

-- the numbers that are there and pass are marked beside those that were, and no others
pub record Marks (passes : ℕ → Bool) (old new : List Bool) : Type 0 where
  pub count : length new ≡ length old
  pub each : (k : ℕ) → k < length old → is_marked new k ≡ (is_marked old k || passes k)

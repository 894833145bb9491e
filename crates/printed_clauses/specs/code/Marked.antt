-- A mark for each of the first numbers, which says whether it passes a test.
use Rattle.std.specs.Prelude.{ℕ, ◌≡◌, ◌<◌, Bool, List, length}
use Rattle.printed_clauses.specs.Marks.{is_marked}

-- a mark for each number below n, which says whether it passes
pub record AreMarks (passes : ℕ → Bool) (n : ℕ) (marks : List Bool) : Type 0 where
  pub count : length marks ≡ n
  pub each : (k : ℕ) → k < n → is_marked marks k ≡ passes k

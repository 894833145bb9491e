-- Of the numbers of some lines the greatest: that of the line that was checked last.
use Rattle.std.specs.Prelude.{ℕ, nat_lt, Option, None, Some, if◌then◌else◌}

-- the greater of two numbers, if there are any
abbrev pub later : Option ℕ → Option ℕ → Option ℕ
later None second = second
later (Some one) None = Some one
later (Some one) (Some other) = if nat_lt one other then Some other else Some one

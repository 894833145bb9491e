-- The entries of a queue: by weight and number.
use Rattle.std.specs.Prelude.{ℕ, ◌<◌, ◌≡◌, List}
use Rattle.std.specs.List.{All as Each}
use Rattle.saturation.specs.declared.member.Member.{Member}
use Rattle.clause_order.specs.Weights.{clause_weight}

-- each stands under its weight, with a number below the next
pub record IsEntry (next : ℕ) (e : (ℕ × ℕ) × Member) : Type 0 where
  pub weight : e.0.0 ≡ clause_weight e.1.clause
  pub number : e.0.1 < next

abbrev pub AreWaiting : List ((ℕ × ℕ) × Member) → ℕ → Type 0
AreWaiting entries next = Each (IsEntry next) entries

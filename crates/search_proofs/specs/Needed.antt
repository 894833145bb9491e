-- Which members of a search's list a further member needs.
use Rattle.std.specs.Prelude.{ℕ, Bool, true, ◌≡◌, ◌⊎◌, List, length, Some, slice_get}
use Rattle.saturation.specs.declared.member.Member.{Member}
use Rattle.saturation.specs.declared.member.Origin.{Origin}
use Rattle.saturation.specs.declared.member.Origin.TheVariants.{Input, Inferred}

-- the origin names the member of this number
abbrev pub Names : Origin → ℕ → Type 0
Names (Input n) i = ⊥
Names (Inferred a b images) i = (i ≡ a) ⊎ (i ≡ b)

-- the place is marked
abbrev pub IsMarked : List Bool → ℕ → Type 0
IsMarked marks i = slice_get marks i ≡ Some true

-- a marked member's origin names the member of this number
pub record IsNamed (members : List Member) (marks : List Bool) (i : ℕ) : Type 0 where
  pub by : ℕ
  pub member : Member
  pub there : slice_get members by ≡ Some member
  pub marked : IsMarked marks by
  pub names : Names member.origin i

-- There is a mark for each member. What the last one's origin names is marked, and what the origins of marked members
-- name; and nothing else is.
pub record AreNeeded (members : List Member) (last : Member) (marks : List Bool) : Type 0 where
  pub count : length marks ≡ length members
  pub of_last : (i : ℕ) → Names last.origin i → IsMarked marks i
  pub of_each : (i : ℕ) → IsNamed members marks i → IsMarked marks i
  pub only : (i : ℕ) → IsMarked marks i → Names last.origin i ⊎ IsNamed members marks i

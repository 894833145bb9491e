-- Which members an origin names.
use Rattle.std.specs.Prelude.{ℕ, ◌≡◌, ◌<◌, List, Some, slice_get}
use Rattle.saturation.specs.declared.member.Member.{Member}
use Rattle.saturation.specs.declared.member.Origin.{Origin}
use Rattle.search_proofs.specs.Needed.{Names}

-- the origin names the first so many members alone
abbrev pub NamesBelow : ℕ → Origin → Type 0
NamesBelow n o = (i : ℕ) → Names o i → i < n

-- each member's origin names earlier members alone
abbrev pub NameEarlier : List Member → Type 0
NameEarlier members = (j : ℕ) (m : Member) → slice_get members j ≡ Some m → NamesBelow j m.origin

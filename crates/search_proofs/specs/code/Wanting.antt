-- Which inputs a refutation needs.
use Rattle.std.specs.Prelude.{ℕ, ◌≡◌, ◌<◌, Bool, List, length, Some, slice_get}
use Rattle.saturation.specs.declared.member.Member.{Member}
use Rattle.saturation.specs.declared.member.Origin.{Origin}
use Rattle.saturation.specs.declared.member.Origin.TheVariants.{Input}
use Rattle.search_proofs.specs.Needed.{IsMarked}

-- the origin's input, if it has one, is one of so many
abbrev pub IsInputBelow : ℕ → Origin → Type 0
IsInputBelow n o = (i : ℕ) → o ≡ Input i → i < n

-- the origin's input, if it has one, is marked
abbrev pub IsInputMarked : List Bool → Origin → Type 0
IsInputMarked marks o = (i : ℕ) → o ≡ Input i → IsMarked marks i

-- the origin's input is marked too
pub record MarksInput (o : Origin) (old new : List Bool) : Type 0 where
  pub count : length new ≡ length old
  pub marked : IsInputMarked new o
  pub kept : (i : ℕ) → IsMarked old i → IsMarked new i

-- there are so many marks, and the inputs of the last member and of all needed ones are marked
pub record AreInputsMarked (count : ℕ) (members : List Member) (needed : List Bool) (last : Member) (marks : List Bool) : Type 0 where
  pub size : length marks ≡ count
  pub of_last : IsInputMarked marks last.origin
  pub of_each : (j : ℕ) (m : Member) → slice_get members j ≡ Some m → IsMarked needed j → IsInputMarked marks m.origin

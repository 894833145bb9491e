-- Marks that are set one by one.
use Rattle.std.specs.Prelude.{ℕ, Bool, ◌≡◌, ◌⊎◌, List, length, Some, slice_get}
use Rattle.saturation.specs.declared.member.Member.{Member}
use Rattle.saturation.specs.declared.member.Origin.{Origin}
use Rattle.search_proofs.specs.Needed.{Names, IsMarked, IsNamed}

-- so many places, none of which is marked
pub record IsUnmarked (n : ℕ) (marks : List Bool) : Type 0 where
  pub count : length marks ≡ n
  pub none : (i : ℕ) → IsMarked marks i → ⊥

-- what the origin names is marked too
pub record Marks (o : Origin) (old new : List Bool) : Type 0 where
  pub count : length new ≡ length old
  pub named : (i : ℕ) → Names o i → IsMarked new i
  pub kept : (i : ℕ) → IsMarked old i → IsMarked new i
  pub only : (i : ℕ) → IsMarked new i → IsMarked old i ⊎ Names o i

-- the same where the place is marked, and nothing else
pub record Passes (at : ℕ) (o : Origin) (old new : List Bool) : Type 0 where
  pub marks : IsMarked old at → Marks o old new
  pub same : (IsMarked old at → ⊥) → new ≡ old

-- what the origins of marked members name is marked
abbrev pub NameMarked : List Member → List Bool → Type 0
NameMarked members marks = (i : ℕ) → IsNamed members marks i → IsMarked marks i

-- the same is marked, and what the origins of marked members name; and nothing else is
pub record IsSweptFrom (members : List Member) (old new : List Bool) : Type 0 where
  pub count : length new ≡ length old
  pub kept : (i : ℕ) → IsMarked old i → IsMarked new i
  pub of_each : NameMarked members new
  pub only : (i : ℕ) → IsMarked new i → IsMarked old i ⊎ IsNamed members new i

-- these places are marked too
pub record MarksAll (places : List ℕ) (old new : List Bool) : Type 0 where
  pub count : length new ≡ length old
  pub kept : (i : ℕ) → IsMarked old i → IsMarked new i
  pub marked : (k i : ℕ) → slice_get places k ≡ Some i → IsMarked new i

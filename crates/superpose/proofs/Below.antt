-- The drafts of the first n elements of a list, while a loop goes through it.
use Rattle.std.specs.Prelude.{ℕ, ◌≡◌, ◌<◌, List, Some, slice_get}
use Rattle.superpose.specs.Drafts.{Draft}

abbrev pub OfFirst : (X : Type 0) → (X → Draft → Type 0) → List X → ℕ → Draft → Type 0
OfFirst X P xs n f = (k : ℕ) × (k < n) × ((x : X) × (slice_get xs k ≡ Some x) × P x f)

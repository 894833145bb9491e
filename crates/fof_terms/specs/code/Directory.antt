-- What private contracts say, beside the definitions of specs/Directory.
use Rattle.std.specs.Prelude.{ℕ, ◌≡◌, List, Some}
use Rattle.fof_terms.specs.declared.directory.Directory.{Directory}
use Rattle.fof_terms.specs.Directory.{entered}

-- the second directory is the first with the number under this name and this number of arguments
pub record Enters (old : Directory) (name : List ℕ) (arity number : ℕ) (new : Directory) : Type 0 where
  pub here : entered new name arity ≡ Some number
  pub elsewhere : (other : List ℕ) (count : ℕ) → (other ≡ name → count ≡ arity → ⊥) → entered new other count ≡ entered old other count

-- the two directories have the same numbers
pub record HasSameEntries (old new : Directory) : Type 0 where
  pub same : (name : List ℕ) (arity : ℕ) → entered new name arity ≡ entered old name arity

-- The new numbers of variables.
use Rattle.std.specs.Prelude.{ℕ, ◌<◌, ◌≡◌, List, ◌++◌, length, map, get_or, slice_get, Some}
use Rattle.std.specs.List.{All as Each, Contains}
use Rattle.fof_terms.specs.declared.term.Term.{Term, Var}
use Rattle.unify_terms.specs.Substitution.{image_at}

abbrev pub IsMissing : List ℕ → ℕ → Type 0
IsMissing list k = Contains list k → ⊥

-- the variable at the place has the sort
pub record HasSortAt (scope kept : List ℕ) (sort place : ℕ) : Type 0 where
  pub variable : ℕ
  pub there : slice_get kept place ≡ Some variable
  pub has_sort : slice_get scope variable ≡ Some sort

-- The new number of variable k means a variable of its sort, and k itself where k is one of those kept from the start.
pub record HasName (scope old new : List ℕ) (k : ℕ) (name : ℕ) : Type 0 where
  pub means : ℕ
  pub there : slice_get new name ≡ Some means
  pub like : slice_get scope means ≡ slice_get scope k
  pub own : Contains old k → means ≡ k

pub record IsGrown (scope old new : List ℕ) : Type 0 where
  pub more : List ℕ
  pub is : new ≡ old ++ more
  pub within : Each (λ k. k < length scope) new

-- the list may have grown, and this is the new number
pub record IsNameOf (scope old new : List ℕ) (k : ℕ) (name : ℕ) : Type 0 where
  pub grown : IsGrown scope old new
  pub has_name : HasName scope old new k name

pub record IsNamedBy (scope old new : List ℕ) (k : ℕ) (t : Term) : Type 0 where
  pub name : ℕ
  pub is : t ≡ Var name
  pub has_name : HasName scope old new k name

-- the first n variables have new numbers
pub record AreNamed (scope old new : List ℕ) (n : ℕ) (images : List Term) : Type 0 where
  pub grown : IsGrown scope old new
  pub size : length images ≡ n
  pub named : (k : ℕ) → k < n → IsNamedBy scope old new k (image_at images k)

abbrev pub sorts_at : List ℕ → List ℕ → List ℕ
sorts_at scope kept = map (λ k. get_or scope k 0) kept

-- What was told of each element of a list, one behind the other.
use Rattle.std.specs.Prelude.{ℕ, ◌≡◌, ◌<◌, ◌≤◌, List, length, Some, slice_get}
use Rattle.std.proofs.Common.{arith, subst}
use Rattle.std.proofs.lemmas.Option.{slice_get_within}
use Rattle.clause_rules.proofs.Firsts.{one_at}

module _ {X : Type 0} (P : X → Type 0) (xs : List X) where
  pub told_here : (k : ℕ) (x : X) → slice_get xs k ≡ Some x → P x → (other : X) → slice_get xs k ≡ Some other → P other
  told_here k x at told other e = subst P (one_at xs k x other at e) told

  pub told_of_all : (n : ℕ) → length xs ≤ n → ((k : ℕ) → k < n → (x : X) → slice_get xs k ≡ Some x → P x) → (k : ℕ) (x : X) → slice_get xs k ≡ Some x → P x
  told_of_all n h told k x e = let lt = slice_get_within xs k x e in told k (omega arith) x e

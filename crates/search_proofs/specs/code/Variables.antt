-- Variables that stand for themselves.
use Rattle.std.specs.Prelude.{ℕ, ◌≡◌, ◌<◌, List, length, Some, slice_get}
use Rattle.fof_terms.specs.declared.term.Term.{Term, Var}

-- so many variables, each at its own number
pub record AreVariables (n : ℕ) (images : List Term) : Type 0 where
  pub count : length images ≡ n
  pub each : (k : ℕ) → k < n → slice_get images k ≡ Some (Var k)

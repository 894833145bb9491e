-- Whether terms are distinct variables.
use Rattle.std.specs.Prelude.{ℕ, ◌≡◌, List, map, Option, Some, None, nat_eq}
use Rattle.std.specs.List.{IsDistinct}
use Rattle.fof_terms.specs.declared.term.Term.{Term, Var}
use Rattle.indexmap.specs.IndexSet.{IndexSet}

-- the terms are these variables, no two of which are the same
pub record AreVariables (args : List Term) (xs : List ℕ) : Type 0 where
  pub are : args ≡ map Var xs
  pub distinct : IsDistinct nat_eq xs

-- the set has the variables that the terms are, in order; or they are no distinct variables
abbrev pub AreNames : {S : Type 0} → List Term → Option (IndexSet ℕ S) → Type 0
AreNames args None = (xs : List ℕ) → AreVariables args xs → ⊥
AreNames args (Some names) = AreVariables args names.keys

-- Lightest-first lists of clauses (the order in which a given-clause loop picks, when it always picks the lightest).
use Rattle.std.specs.Prelude.{ℕ, ◌+◌, ◌*◌, ◌≤◌, List, [], ◌≡◌, ◌⊎◌, map, Some, slice_get, take}
use Rattle.std.specs.List.{Contains}
use Rattle.fof_terms.specs.Vocabulary.{Vocabulary}
use Rattle.fof_terms.specs.Lift.{greatest}
use Rattle.clause_form.specs.declared.clause.Clause.{Clause}
use Rattle.clause_form.specs.Covers.{IsTrivial}
use Rattle.clause_order.specs.Weights.{clause_weight}
use Rattle.subsumption.specs.Subsumes.{Subsumes}
use Rattle.superpose.specs.Inferences.{IsInference}

-- the greatest weight of a member
abbrev pub bound_of : List Clause → ℕ
bound_of inputs = 500 + 2 * greatest (map clause_weight inputs)

-- an input, or an inference of the list
abbrev pub IsOffered : Vocabulary → List Clause → List Clause → Clause → Type 0
IsOffered v inputs list e = Contains inputs e ⊎ IsInference v list e

-- a clause of the list subsumes it
abbrev pub IsCoveredIn : Vocabulary → List Clause → Clause → Type 0
IsCoveredIn v list e = (m : Clause) × Contains list m × Subsumes v m e

-- trivial, or covered
abbrev pub IsDone : Vocabulary → List Clause → Clause → Type 0
IsDone v list e = IsTrivial e.lits ⊎ IsCoveredIn v list e

-- offered, not done and not too heavy
pub record IsOpen (v : Vocabulary) (inputs list : List Clause) (e : Clause) : Type 0 where
  pub offered : IsOffered v inputs list e
  pub undone : IsDone v list e → ⊥
  pub light : clause_weight e ≤ bound_of inputs

-- the clause is open after the list, and no other that is open weighs less
pub record IsLightest (v : Vocabulary) (inputs list : List Clause) (m : Clause) : Type 0 where
  pub is_open : IsOpen v inputs list m
  pub least : (e : Clause) → IsOpen v inputs list e → clause_weight m ≤ clause_weight e

-- each member is the lightest that was open at its place
abbrev pub IsLightestFirst : Vocabulary → List Clause → List Clause → Type 0
IsLightestFirst v inputs list = (i : ℕ) (m : Clause) → slice_get list i ≡ Some m → IsLightest v inputs (take i list) m

-- each input and each inference of the list is done
abbrev pub IsClosed : Vocabulary → List Clause → List Clause → Type 0
IsClosed v inputs list = (e : Clause) → IsOffered v inputs list e → IsDone v list e

-- neither an input nor an inference of the list is empty
abbrev pub IsQuiet : Vocabulary → List Clause → List Clause → Type 0
IsQuiet v inputs list = (e : Clause) → IsOffered v inputs list e → e.lits ≡ [] → ⊥

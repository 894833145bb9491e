-- The four ends of a search.
use Rattle.std.specs.Prelude.{ℕ, ◌<◌, ◌≤◌, List, [], ◌≡◌, ◌⊎◌, length}
use Rattle.std.specs.List.{All as Each}
use Rattle.fof_terms.specs.Vocabulary.{Vocabulary}
use Rattle.clause_form.specs.declared.clause.Clause.{Clause}
use Rattle.saturation.specs.declared.outcome.Outcome.{Outcome}
use Rattle.saturation.specs.declared.outcome.Outcome.TheVariants.{Refuted, Dry, Full, Heavy}
use Rattle.clause_order.specs.Weights.{clause_weight}
use Rattle.superpose.specs.Drafts.{IsClause}
use Rattle.superpose.specs.Inferences.{IsInference}
use Rattle.saturation.specs.Lists.{bound_of, IsOffered, IsDone, IsLightestFirst, IsClosed, IsQuiet}
use Rattle.saturation.specs.Members.{clauses_of}
use Rattle.saturation.specs.Origins.{IsMade, AreMade, NamesOne}

-- everything that is offered is done
pub record IsDry (v : Vocabulary) (inputs : List Clause) (limit : ℕ) (list : List Clause) : Type 0 where
  pub within : length list ≤ limit
  pub lightest : IsLightestFirst v inputs list
  pub quiet : IsQuiet v inputs list
  pub closed : IsClosed v inputs list

-- there is no room for a further member
pub record IsFull (v : Vocabulary) (inputs : List Clause) (limit : ℕ) (list : List Clause) : Type 0 where
  pub full : length list ≡ limit
  pub lightest : IsLightestFirst v inputs list
  pub quiet : IsQuiet v inputs list
  pub not_closed : IsClosed v inputs list → ⊥

-- what isn't done is too heavy
pub record IsHeavy (v : Vocabulary) (inputs : List Clause) (limit : ℕ) (list : List Clause) : Type 0 where
  pub within : length list < limit
  pub lightest : IsLightestFirst v inputs list
  pub quiet : IsQuiet v inputs list
  pub heavy : (e : Clause) × IsInference v list e × (bound_of inputs < clause_weight e) × (IsDone v list e → ⊥)
  pub others : (e : Clause) → IsOffered v inputs list e → IsDone v list e ⊎ (bound_of inputs < clause_weight e)

-- an input or an inference of the list is empty
pub record IsRefuted (v : Vocabulary) (inputs : List Clause) (limit : ℕ) (list : List Clause) (empty : Clause) : Type 0 where
  pub within : length list ≤ limit
  pub lightest : IsLightestFirst v inputs list
  pub offered : IsOffered v inputs list empty
  pub is_empty : empty.lits ≡ []

-- the list is as the word says
abbrev pub EndsWith : Vocabulary → List Clause → ℕ → Outcome → Type 0
EndsWith v inputs limit (Refuted list empty) = IsRefuted v inputs limit (clauses_of list) empty.clause
EndsWith v inputs limit (Dry list) = IsDry v inputs limit (clauses_of list)
EndsWith v inputs limit (Full list) = IsFull v inputs limit (clauses_of list)
EndsWith v inputs limit (Heavy list) = IsHeavy v inputs limit (clauses_of list)

-- each origin makes its member, and that of the further one makes it from the list
abbrev pub HasOrigins : Vocabulary → List Clause → Outcome → Type 0
HasOrigins v inputs (Refuted list empty) = AreMade v inputs list × IsMade v inputs (clauses_of list) empty
HasOrigins v inputs (Dry list) = AreMade v inputs list
HasOrigins v inputs (Full list) = AreMade v inputs list
HasOrigins v inputs (Heavy list) = AreMade v inputs list

-- no origin names two different members
abbrev pub NamesOnes : Outcome → Type 0
NamesOnes (Refuted list empty) = Each (λ m. NamesOne m.origin) list × NamesOne empty.origin
NamesOnes (Dry list) = Each (λ m. NamesOne m.origin) list
NamesOnes (Full list) = Each (λ m. NamesOne m.origin) list
NamesOnes (Heavy list) = Each (λ m. NamesOne m.origin) list

-- no more members than the limit, and exactly as many where the word is full
abbrev pub KeepsLimit : ℕ → Outcome → Type 0
KeepsLimit limit (Refuted list empty) = length list ≤ limit
KeepsLimit limit (Dry list) = length list ≤ limit
KeepsLimit limit (Full list) = length list ≡ limit
KeepsLimit limit (Heavy list) = length list ≤ limit

-- each member's clause is well-sorted over few sorts, which exist
abbrev pub HasFitMembers : Vocabulary → Outcome → Type 0
HasFitMembers v (Refuted list empty) = Each (λ m. IsClause v m.clause) list × IsClause v empty.clause
HasFitMembers v (Dry list) = Each (λ m. IsClause v m.clause) list
HasFitMembers v (Full list) = Each (λ m. IsClause v m.clause) list
HasFitMembers v (Heavy list) = Each (λ m. IsClause v m.clause) list

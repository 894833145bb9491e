-- What holds of a search that is under way.
use Rattle.std.specs.Prelude.{◌+◌, ◌<◌, ◌≤◌, List, [], ◌∷◌, ◌++◌, ◌≡◌, ◌⊎◌, Bool, true, false, length}
use Rattle.std.specs.List.{Contains, All as Each}
use Rattle.fof_terms.specs.Vocabulary.{Vocabulary}
use Rattle.clause_form.specs.declared.clause.Clause.{Clause}
use Rattle.clause_form.specs.Covers.{IsTrivial, IsInstance}
use Rattle.saturation.specs.declared.member.Member.{Member}
use Rattle.clause_order.specs.Weights.{clause_weight}
use Rattle.superpose.specs.Drafts.{IsClause}
use Rattle.superpose.specs.Inferences.{IsInference}
use Rattle.saturation.specs.Lists.{bound_of, IsOffered, IsDone, IsLightestFirst}
use Rattle.saturation.specs.Origins.{IsMade, AreMade, NamesOne}

-- an instance of one of the clauses
abbrev pub IsInstanceOfOne : Vocabulary → List Member → Clause → Type 0
IsInstanceOfOne v members e = (m : Member) × Contains members m × IsInstance v m.clause e

-- what was made or given, and by what; over a blind index no origin names two members
pub record IsFound (v : Vocabulary) (whole : Bool) (inputs list : List Clause) (m : Member) : Type 0 where
  pub made : IsMade v inputs list m
  pub clause : IsClause v m.clause
  pub alone : whole ≡ false → NamesOne m.origin

-- what waits for its place in the list
pub record IsQueued (v : Vocabulary) (whole : Bool) (inputs list : List Clause) (m : Member) : Type 0 where
  pub found : IsFound v whole inputs list m
  pub light : clause_weight m.clause ≤ bound_of inputs
  pub not_trivial : IsTrivial m.clause.lits → ⊥

-- what is too heavy for the list
pub record IsTooHeavy (v : Vocabulary) (whole : Bool) (inputs list : List Clause) (m : Member) : Type 0 where
  pub found : IsFound v whole inputs list m
  pub heavy : bound_of inputs < clause_weight m.clause
  pub not_trivial : IsTrivial m.clause.lits → ⊥

-- a clause that isn't empty, and is done or an instance of one that waits or is too heavy
pub record IsSettled (v : Vocabulary) (list : List Clause) (queue heavy : List Member) (e : Clause) : Type 0 where
  pub not_empty : e.lits ≡ [] → ⊥
  pub known : IsDone v list e ⊎ (IsInstanceOfOne v queue e ⊎ IsInstanceOfOne v heavy e)

-- Where the index is whole, each clause that is offered is settled, or an instance of one that is still to be looked at.
pub record IsUnderWay (v : Vocabulary) (whole : Bool) (inputs list : List Clause) (todo queue heavy : List Member) : Type 0 where
  pub members : Each (IsClause v) list
  pub todo_found : Each (IsFound v whole inputs list) todo
  pub queued : Each (IsQueued v whole inputs list) queue
  pub too_heavy : Each (IsTooHeavy v whole inputs list) heavy
  pub lightest : whole ≡ true → IsLightestFirst v inputs list
  pub settled : whole ≡ true → (e : Clause) → IsOffered v inputs list e → IsSettled v list queue heavy e
      ⊎ IsInstanceOfOne v todo e

-- The members made so far follow from the list with one clause more. Where the index is whole, each other inference that
-- uses that clause is an instance of one of these.
pub record IsMadeWith (v : Vocabulary) (whole : Bool) (list : List Clause) (last : Clause) (made : List Member) : Type 0 where
  pub each : (inputs : List Clause) → Each (IsFound v whole inputs (list ++ last ∷ [])) made
  pub all : whole ≡ true → (e : Clause) → IsInference v (list ++ last ∷ []) e → IsInference v list e
      ⊎ IsInstanceOfOne v made e

-- each member of the list was made by its origin, from earlier ones; over a blind index no origin names two
pub record AreKept (v : Vocabulary) (whole : Bool) (inputs : List Clause) (list : List Member) : Type 0 where
  pub made : AreMade v inputs list
  pub alone : whole ≡ false → Each (λ m. NamesOne m.origin) list

-- the lightest of those that wait was taken
pub record IsTaken (old new : List Member) (m : Member) : Type 0 where
  pub there : Contains old m
  pub others : (x : Member) → Contains old x → (x ≡ m) ⊎ Contains new x
  pub no_new : (x : Member) → Contains new x → Contains old x
  pub least : (x : Member) → Contains old x → clause_weight m.clause ≤ clause_weight x.clause
  pub fewer : length new + 1 ≡ length old

-- one joined those that wait
pub record HasJoined (old new : List Member) (m : Member) : Type 0 where
  pub there : Contains new m
  pub kept : (x : Member) → Contains old x → Contains new x
  pub others : (x : Member) → Contains new x → Contains old x ⊎ (x ≡ m)

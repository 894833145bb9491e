-- What one step of a search does.
use Rattle.std.specs.Prelude.{ℕ, List, [], ◌∷◌, ◌++◌, ◌≡◌, Option, Some, None, Bool, true, false, MatchOption}
use Rattle.std.specs.List.{Contains, All as Each}
use Rattle.fof_terms.specs.Vocabulary.{Vocabulary}
use Rattle.clause_form.specs.declared.clause.Clause.{Clause}
use Rattle.saturation.specs.declared.member.Member.{Member}
use Rattle.saturation.specs.declared.outcome.Outcome.{Outcome}
use Rattle.saturation.specs.Ends.{EndsWith, HasFitMembers, HasOrigins, KeepsLimit, NamesOnes}
use Rattle.saturation.specs.Lists.{bound_of, IsCoveredIn}
use Rattle.saturation.specs.code.Search.{IsFound, IsUnderWay, IsTaken}

-- the member was looked at: it went to the queue or to what is too heavy, or nowhere
abbrev pub Places : ℕ → Member → List Member → List Member → List Member → List Member → Type 0
Places bound x queue heavy new_queue new_heavy = (v : Vocabulary) (whole : Bool) (inputs list : List Clause) (todo : List Member)
    → bound ≡ bound_of inputs → (x.clause.lits ≡ [] → ⊥)
    → IsUnderWay v whole inputs list (todo ++ x ∷ []) queue heavy
    → IsUnderWay v whole inputs list todo new_queue new_heavy

-- all were looked at, up to one that is empty
abbrev pub Sifts : ℕ → List Member → List Member → List Member → List Member → List Member → Option Member → Type 0
Sifts bound todo queue heavy new_queue new_heavy empty = (v : Vocabulary) (whole : Bool) (inputs list : List Clause)
    → bound ≡ bound_of inputs → IsUnderWay v whole inputs list todo queue heavy
    → MatchOption empty (IsUnderWay v whole inputs list [] new_queue new_heavy) (λ x. IsFound v whole inputs list x
    × (x.clause.lits ≡ []))

-- whether each member is covered, with one that isn't
abbrev pub AreCoveredIn : Vocabulary → List Clause → List Member → Bool → Type 0
AreCoveredIn v list members true = Each (λ m. IsCoveredIn v list m.clause) members
AreCoveredIn v list members false = (x : Member) × Contains members x × (IsCoveredIn v list x.clause → ⊥)

-- the next member was taken from a queue, and no clause of the list covers it; without one the queue is empty
abbrev pub IsNext : Vocabulary → Bool → List Clause → List Clause → List Member → List Member → Option Member → Type 0
IsNext v whole inputs list rest heavy None = IsUnderWay v whole inputs list [] [] heavy
IsNext v whole inputs list rest heavy (Some x) =
    (queue : List Member) × IsUnderWay v whole inputs list [] queue heavy × IsTaken queue rest x
    × (IsCoveredIn v list x.clause → ⊥)

-- what an answer says, over whole indexes and over blind ones
pub record AnswersAs (v : Vocabulary) (whole : Bool) (inputs : List Clause) (limit : ℕ) (outcome : Outcome) : Type 0 where
  pub keeps : KeepsLimit limit outcome
  pub origins : HasOrigins v inputs outcome
  pub fit : HasFitMembers v outcome
  pub ends : whole ≡ true → EndsWith v inputs limit outcome
  pub alone : whole ≡ false → NamesOnes outcome

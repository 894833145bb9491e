-- The last facts of a refutation.
use Rattle.std.specs.Prelude.{ℕ, ◌≡◌, List, [], ◌∷◌, ◌++◌, Option, Some, None}
use Rattle.fof_terms.specs.Vocabulary.{Vocabulary}
use Rattle.kernel.specs.declared.proof.Proof.{Proof}
use Rattle.saturation.specs.declared.member.Member.{Member}
use Rattle.search_proofs.specs.Falsehood.{IsFalsehoodBy}
use Rattle.search_proofs.specs.code.Contradictions.{Contradicts, IsByContradiction}
use Rattle.search_proofs.specs.code.Members.{IsPassed}
use Rattle.search_proofs.specs.declared.contradicting.Contradiction.{Contradiction}

-- what was found, if anything, is a contradiction
abbrev pub IsSound : List Member → Option Contradiction → Type 0
IsSound members None = Unit {0}
IsSound members (Some c) = Contradicts members c

-- the last member was passed, and falsehood was added, which the proof shows by it
pub record IsEndedByLast (w : Vocabulary) (start : ℕ) (members : List Member) (numbers of_inputs : List ℕ) (last : Member)
    (old new : List Proof) : Type 0 where
  pub mid : List Proof
  pub number : ℕ
  pub proof : Proof
  pub passed : IsPassed w start members numbers of_inputs last.clause last.origin old mid number
  pub falsehood : IsFalsehoodBy number last.clause.sorts proof
  pub is : new ≡ mid ++ proof ∷ []

-- falsehood was added, which the proof shows by the contradiction
pub record IsEndedBy (members : List Member) (numbers : List ℕ) (c : Contradiction) (old new : List Proof)
    : Type 0 where
  pub proof : Proof
  pub falsehood : IsByContradiction members numbers c proof
  pub is : new ≡ old ++ proof ∷ []

-- falsehood was added, by the contradiction, or else by the last member
abbrev pub IsEnded : Vocabulary → ℕ → List Member → List ℕ → List ℕ → Member → Option Contradiction → List Proof
    → List Proof → Type 0
IsEnded w start members numbers of_inputs last None old new =
    IsEndedByLast w start members numbers of_inputs last old new
IsEnded w start members numbers of_inputs last (Some c) old new = IsEndedBy members numbers c old new

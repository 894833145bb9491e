-- What holds while loops pass: of offers, of names, of marked clauses, of turns.
use Rattle.std.specs.Prelude.{ℕ, ◌<◌, ◌≤◌, Bool, true, List, [], ◌≡◌, ◌⊎◌, length, Some, slice_get}
use Rattle.std.specs.List.{Contains}
use Rattle.fof_terms.specs.declared.term.Term.{Term}
use Rattle.fof_terms.specs.Vocabulary.{Vocabulary}
use Rattle.clause_form.specs.declared.clause.Lit.{Lit}
use Rattle.clause_form.specs.declared.clause.Clause.{Clause}
use Rattle.superpose.specs.declared.made.Made.{Made}
use Rattle.superpose.specs.Inferences.{InfersFromTwo}
use Rattle.saturation.specs.declared.member.Member.{Member}
use Rattle.saturation.specs.declared.known.Known.{Known}
use Rattle.saturation.specs.declared.offers.Offer.{Offer}
use Rattle.saturation.specs.Members.{clauses_of}
use Rattle.saturation.specs.code.Entered.{HoldsOfAtoms, HoldsOfSides, HoldsOfSpots}
use Rattle.saturation.specs.code.Known.{AreKnown}
use Rattle.saturation.specs.code.Named.{named, FollowsTwo}
use Rattle.saturation.specs.code.Search.{IsInstanceOfOne, IsUnderWay, AreKept}

-- the terms that inferences use of the literals are among these
pub record AreOffered (lits : List Lit) (literals terms : List Offer) : Type 0 where
  pub atoms : HoldsOfAtoms lits (λ sign t. Contains literals (record { positive = sign; term = t }))
  pub sides : HoldsOfSides lits (λ sign t. Contains terms (record { positive = sign; term = t }))
  pub spots : HoldsOfSpots lits (λ sign t. Contains terms (record { positive = sign; term = t }))

-- those that were made are on their way to the others: these are left
pub record IsNaming (all left : List Made) (a b : ℕ) (old new : List Member) : Type 0 where
  pub kept : (m : Member) → Contains old m → Contains new m
  pub among : (x : Made) → Contains left x → Contains all x
  pub there : (x : Made) → Contains all x → Contains left x ⊎ Contains new (named a b x)
  pub others : (m : Member) → Contains new m → Contains old m ⊎ ((x : Made) × Contains all x × (m ≡ named a b x))

-- the inferences from marked ones of the first clauses of the list and the last clause came to the others
pub record FollowSoFar (at : ℕ) (v : Vocabulary) (list : List Clause) (last : Clause) (number : ℕ)
    (into from : List Bool) (old new : List Member) : Type 0 where
  pub kept : (m : Member) → Contains old m → Contains new m
  pub others : (m : Member) → Contains new m → Contains old m ⊎ ((n : ℕ) × (c : Clause) × (slice_get list n ≡ Some c)
      × (((slice_get into n ≡ Some true) × FollowsTwo v last c number n m)
      ⊎ ((slice_get from n ≡ Some true) × FollowsTwo v c last n number m)))
  pub into_all : (n : ℕ) (c : Clause) → n < at → slice_get list n ≡ Some c → slice_get into n ≡ Some true
      → (e : Clause) (s : ℕ → Term) → InfersFromTwo v last c e s → IsInstanceOfOne v new e
  pub from_all : (n : ℕ) (c : Clause) → n < at → slice_get list n ≡ Some c → slice_get from n ≡ Some true
      → (e : Clause) (s : ℕ → Term) → InfersFromTwo v c last e s → IsInstanceOfOne v new e

-- what holds at each turn
pub record IsTurning (v : Vocabulary) (whole : Bool) (inputs : List Clause) (limit : ℕ) (list : List Member)
    (known : List Known) (queue heavy : List Member) : Type 0 where
  pub within : length list ≤ limit
  pub under_way : IsUnderWay v whole inputs (clauses_of list) [] queue heavy
  pub kept : AreKept v whole inputs list
  pub facts : AreKnown (clauses_of list) known

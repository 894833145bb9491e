-- What was made, as members.
use Rattle.std.specs.Prelude.{ℕ, Bool, true, List, ◌≡◌, ◌⊎◌, length, Some, slice_get}
use Rattle.std.specs.List.{Contains}
use Rattle.fof_terms.specs.declared.term.Term.{Term}
use Rattle.fof_terms.specs.Vocabulary.{Vocabulary}
use Rattle.clause_form.specs.declared.clause.Clause.{Clause}
use Rattle.clause_form.specs.Covers.{scope_of}
use Rattle.clause_rules.specs.Steps.{scope_of_both}
use Rattle.unify_terms.specs.Substitution.{image_at}
use Rattle.superpose.specs.declared.made.Made.{Made}
use Rattle.superpose.specs.Absent.{AreWithout}
use Rattle.superpose.specs.Drafts.{IsClause}
use Rattle.superpose.specs.Inferences.{InfersFromOne, InfersFromTwo}
use Rattle.saturation.specs.declared.member.Member.{Member}
use Rattle.saturation.specs.declared.member.Origin.TheVariants.{Inferred}
use Rattle.saturation.specs.code.Search.{IsInstanceOfOne}

abbrev pub named : ℕ → ℕ → Made → Member
named a b m = record { clause = m.clause; origin = Inferred a b m.subst }

-- those that were made came to the others
pub record AreNamed (made : List Made) (a b : ℕ) (old new : List Member) : Type 0 where
  pub kept : (m : Member) → Contains old m → Contains new m
  pub there : (x : Made) → Contains made x → Contains new (named a b x)
  pub others : (m : Member) → Contains new m → Contains old m ⊎ ((x : Made) × Contains made x × (m ≡ named a b x))

-- the member follows from the clause of this number
pub record FollowsOne (v : Vocabulary) (c : Clause) (a : ℕ) (m : Member) : Type 0 where
  pub images : List Term
  pub origin : m.origin ≡ Inferred a a images
  pub each : length images ≡ length (scope_of c)
  pub infers : InfersFromOne v c m.clause (image_at images)
  pub no_new : (k : ℕ) → AreWithout k c.lits → AreWithout k m.clause.lits
  pub clause : IsClause v m.clause

-- the member follows from the clauses of these numbers
pub record FollowsTwo (v : Vocabulary) (c d : Clause) (a b : ℕ) (m : Member) : Type 0 where
  pub images : List Term
  pub origin : m.origin ≡ Inferred a b images
  pub each : length images ≡ length (scope_of_both c d)
  pub infers : InfersFromTwo v c d m.clause (image_at images)
  pub no_new : (k : ℕ) → AreWithout k c.lits → AreWithout k d.lits → AreWithout k m.clause.lits
  pub clause : IsClause v m.clause

-- all inferences from the clause came to the others, up to instances
pub record FollowFromOne (v : Vocabulary) (c : Clause) (a : ℕ) (old new : List Member) : Type 0 where
  pub kept : (m : Member) → Contains old m → Contains new m
  pub others : (m : Member) → Contains new m → Contains old m ⊎ FollowsOne v c a m
  pub all : (e : Clause) (s : ℕ → Term) → InfersFromOne v c e s → IsInstanceOfOne v new e

-- those from two clauses, if it is wanted; else none came
pub record FollowIf (wanted : Bool) (v : Vocabulary) (c d : Clause) (a b : ℕ) (old new : List Member) : Type 0 where
  pub kept : (m : Member) → Contains old m → Contains new m
  pub others : (m : Member) → Contains new m → Contains old m ⊎ ((wanted ≡ true) × FollowsTwo v c d a b m)
  pub all : wanted ≡ true → (e : Clause) (s : ℕ → Term) → InfersFromTwo v c d e s → IsInstanceOfOne v new e

-- the inferences from marked clauses of the list and the last one came to the others
pub record FollowMarked (v : Vocabulary) (list : List Clause) (last : Clause) (number : ℕ) (into from : List Bool) (old new : List Member) : Type 0 where
  pub kept : (m : Member) → Contains old m → Contains new m
  pub others : (m : Member) → Contains new m → Contains old m ⊎ ((n : ℕ) × (c : Clause) × (slice_get list n ≡ Some c)
      × (((slice_get into n ≡ Some true) × FollowsTwo v last c number n m)
      ⊎ ((slice_get from n ≡ Some true) × FollowsTwo v c last n number m)))
  pub into_all : (n : ℕ) (c : Clause) → slice_get list n ≡ Some c → slice_get into n ≡ Some true
      → (e : Clause) (s : ℕ → Term) → InfersFromTwo v last c e s → IsInstanceOfOne v new e
  pub from_all : (n : ℕ) (c : Clause) → slice_get list n ≡ Some c → slice_get from n ≡ Some true
      → (e : Clause) (s : ℕ → Term) → InfersFromTwo v c last e s → IsInstanceOfOne v new e

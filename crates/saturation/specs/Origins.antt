-- What the origin of a member says: which input it is, or from which members it follows, and by which substitution.
use Rattle.std.specs.Prelude.{ℕ, List, ◌≡◌, ◌⊎◌, Some, slice_get, length, take}
use Rattle.fof_terms.specs.declared.term.Term.{Term}
use Rattle.fof_terms.specs.Vocabulary.{Vocabulary}
use Rattle.clause_form.specs.declared.clause.Clause.{Clause}
use Rattle.clause_form.specs.Covers.{scope_of}
use Rattle.saturation.specs.declared.member.Member.{Member}
use Rattle.saturation.specs.declared.member.Origin.{Origin}
use Rattle.saturation.specs.declared.member.Origin.TheVariants.{Input, Inferred}
use Rattle.unify_terms.specs.Substitution.{image_at}
use Rattle.clause_rules.specs.Steps.{scope_of_both}
use Rattle.superpose.specs.Absent.{AreWithout}
use Rattle.superpose.specs.Inferences.{InfersFromTwo, InfersFromOne}
use Rattle.saturation.specs.Members.{clauses_of}

-- From two clauses of the list. No symbol is new. The images are those of the variables of the first, and then those
-- of the second.
pub record FollowsFromTwo (v : Vocabulary) (list : List Clause) (e : Clause) (a b : ℕ) (images : List Term) : Type 0 where
  pub first : Clause
  pub second : Clause
  pub first_at : slice_get list a ≡ Some first
  pub second_at : slice_get list b ≡ Some second
  pub each : length images ≡ length (scope_of_both first second)
  pub infers : InfersFromTwo v first second e (image_at images)
  pub no_new : (k : ℕ) → AreWithout k first.lits → AreWithout k second.lits → AreWithout k e.lits

-- from one clause of the list, which is named twice
pub record FollowsFromOne (v : Vocabulary) (list : List Clause) (e : Clause) (a b : ℕ) (images : List Term) : Type 0 where
  pub premise : Clause
  pub premise_at : slice_get list a ≡ Some premise
  pub twice : a ≡ b
  pub each : length images ≡ length (scope_of premise)
  pub infers : InfersFromOne v premise e (image_at images)
  pub no_new : (k : ℕ) → AreWithout k premise.lits → AreWithout k e.lits

-- the origin makes the clause, from the inputs or from clauses of the list
abbrev pub Makes : Vocabulary → List Clause → List Clause → Clause → Origin → Type 0
Makes v inputs list e (Input i) = slice_get inputs i ≡ Some e
Makes v inputs list e (Inferred a b images) = FollowsFromTwo v list e a b images ⊎ FollowsFromOne v list e a b images

abbrev pub IsMade : Vocabulary → List Clause → List Clause → Member → Type 0
IsMade v inputs list m = Makes v inputs list m.clause m.origin

-- each member is made by its origin, from the inputs or from earlier members
abbrev pub AreMade : Vocabulary → List Clause → List Member → Type 0
AreMade v inputs list = (i : ℕ) (m : Member) → slice_get list i ≡ Some m → IsMade v inputs (clauses_of (take i list)) m

-- the origin names no two different members
abbrev pub NamesOne : Origin → Type 0
NamesOne (Input i) = Unit {0}
NamesOne (Inferred a b images) = a ≡ b

-- The inputs as members.
use Rattle.std.specs.Prelude.{ℕ, List, ◌≡◌, Some, slice_get}
use Rattle.clause_form.specs.declared.clause.Clause.{Clause}
use Rattle.saturation.specs.declared.member.Member.{Member}
use Rattle.saturation.specs.declared.member.Origin.TheVariants.{Input}
use Rattle.saturation.specs.Members.{clauses_of}

-- each has its number as origin
pub record AreGiven (inputs : List Clause) (members : List Member) : Type 0 where
  pub same : clauses_of members ≡ inputs
  pub numbered : (i : ℕ) (m : Member) → slice_get members i ≡ Some m → m.origin ≡ Input i

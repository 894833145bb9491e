-- The most general clauses that drafts make, of which all others that they make are instances.
use Rattle.std.specs.Prelude.{ℕ, ◌≡◌, List, slice_get, Some}
use Rattle.fof_terms.specs.declared.term.Term.{Term}
use Rattle.fof_terms.specs.Vocabulary.{Vocabulary}
use Rattle.clause_form.specs.declared.clause.Clause.{Clause}
use Rattle.clause_form.specs.Images.{image, IsImages}
use Rattle.clause_form.specs.Covers.{IsInstance}
use Rattle.superpose.specs.Drafts.{Draft, IsMadeBy}

-- A well-sorted substitution that makes the two terms of the draft equal. Each other one is this one followed by some
-- substitution.
pub record IsMostGeneral (v : Vocabulary) (scope : List ℕ) (f : Draft) (mid : List ℕ) (s : ℕ → Term) : Type 0 where
  pub images : IsImages v scope mid s
  pub unified : image s f.one ≡ image s f.other
  pub general : (to : List ℕ) (r : ℕ → Term) → IsImages v scope to r → image r f.one ≡ image r f.other
      → (t : ℕ → Term) × IsImages v mid to t × ((k q : ℕ) → slice_get scope k ≡ Some q → r k ≡ image t (s k))

-- the draft makes the clause, and each clause that it makes is an instance of this one
pub record IsBestOf (v : Vocabulary) (scope : List ℕ) (f : Draft) (e : Clause) : Type 0 where
  pub images : ℕ → Term
  pub made : IsMadeBy v scope f e images
  pub best : (other : Clause) (s : ℕ → Term) → IsMadeBy v scope f other s → IsInstance v e other

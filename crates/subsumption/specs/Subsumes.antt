-- When a clause subsumes another: one substitution makes its literals literals of the other, each at a place of its own
-- (Robinson's theta-subsumption, where literals stay apart, as in Bachmair and Ganzinger).
use Rattle.std.specs.Prelude.{ℕ, List, ◌++◌, ◌≡◌, ◌<◌, length, Some, slice_get}
use Rattle.fof_terms.specs.declared.term.Term.{Term}
use Rattle.fof_terms.specs.Vocabulary.{Vocabulary}
use Rattle.clause_form.specs.declared.clause.Lit.{Lit}
use Rattle.clause_form.specs.declared.clause.Clause.{Clause}
use Rattle.clause_form.specs.Images.{IsImages}
use Rattle.clause_form.specs.Covers.{lit_image, IsSame, scope_of}

-- the literal that stands at the place is this one, up to the sides of an equation
abbrev pub StandsAt : List Lit → ℕ → Lit → Type 0
StandsAt lits place k = (l : Lit) × (slice_get lits place ≡ Some l) × IsSame k l

-- the substitution takes the member's variables to terms of their sorts over those of the clause and further ones, and
-- the image of literal i stands at place `at i` of the clause, different ones at different places
pub record SubsumesBy (v : Vocabulary) (member clause : Clause) (more : List ℕ) (s : ℕ → Term) (at : ℕ → ℕ)
    : Type 0 where
  pub images : IsImages v (scope_of member) (scope_of clause ++ more) s
  pub stands : (i : ℕ) (k : Lit) → slice_get member.lits i ≡ Some k
      → StandsAt clause.lits (at i) (lit_image s k)
  pub apart : (i j : ℕ) → i < length member.lits → j < length member.lits → at i ≡ at j → i ≡ j

-- one substitution and one choice of places do so
abbrev pub Subsumes : Vocabulary → Clause → Clause → Type 0
Subsumes v member clause =
    (more : List ℕ) × (s : ℕ → Term) × (at : ℕ → ℕ) × SubsumesBy v member clause more s at

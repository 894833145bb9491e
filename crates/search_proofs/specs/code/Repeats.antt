-- Members of a refutation whose clauses have each literal once.
use Rattle.std.specs.Prelude.{ℕ, ◌≡◌, ◌⊎◌, List, [], ◌∷◌, ◌++◌, Some, slice_get}
use Rattle.clause_form.specs.declared.clause.Lit.{Lit}
use Rattle.clause_form.specs.declared.clause.Clause.{Clause}
use Rattle.saturation.specs.declared.member.Member.{Member}
use Rattle.saturation.specs.declared.member.Origin.{Origin}
use Rattle.saturation.specs.declared.member.Origin.TheVariants.{Input, Inferred}

-- the literal stands at some place
abbrev pub Stands : List Lit → Lit → Type 0
Stands lits l = (i : ℕ) × (slice_get lits i ≡ Some l)

-- the literals of the one list, each of them once
pub record AreOnce (lits made : List Lit) : Type 0 where
  pub all : (l : Lit) → Stands lits l → Stands made l
  pub none : (l : Lit) → Stands made l → Stands lits l
  pub once : (m n : ℕ) (l : Lit) → slice_get made m ≡ Some l → slice_get made n ≡ Some l → m ≡ n

-- the literal is added, if it does not stand there
abbrev pub AddsOnce : List Lit → Lit → List Lit → Type 0
AddsOnce old l new = (Stands old l × (new ≡ old)) ⊎ ((Stands old l → ⊥) × (new ≡ old ++ l ∷ []))

-- the clause over the same variables
pub record IsMergedClause (c made : Clause) : Type 0 where
  pub sorts : made.sorts ≡ c.sorts
  pub lits : AreOnce c.lits made.lits

-- an input is left as it is
abbrev pub IsMergedBy : Origin → Clause → Clause → Type 0
IsMergedBy (Input i) c made = made ≡ c
IsMergedBy (Inferred a b images) c made = IsMergedClause c made

pub record IsMerged (m made : Member) : Type 0 where
  pub origin : made.origin ≡ m.origin
  pub clause : IsMergedBy m.origin m.clause made.clause

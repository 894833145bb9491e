-- What a search for one substitution ends with.
use Rattle.std.specs.Prelude.{ℕ, ◌≤◌, List, length, Option, Some, None}
use Rattle.fof_terms.specs.declared.term.Term.{Term}
use Rattle.fof_terms.specs.Vocabulary.{Vocabulary}
use Rattle.clause_form.specs.declared.clause.Clause.{Clause}
use Rattle.clause_form.specs.Covers.{scope_of, AreSorted}
use Rattle.clause_rules.specs.Steps.{IsJoint, images_of_parents}

-- the literals fit the clause's sorts, which are few enough
pub record IsFit (v : Vocabulary) (c : Clause) : Type 0 where
  pub sorted : AreSorted v (scope_of c) c.lits
  pub few : length c.sorts ≤ 1000000000

-- images with the property for the line and for variables of this scope, or none exactly where no substitution has it
abbrev pub Settles : Vocabulary → Clause → List ℕ → (List ℕ → (ℕ → Term) → Type 0) → Option (List Term) → Type 0
Settles v line scope P None = (more : List ℕ) (s : ℕ → Term) → P more s → ⊥
Settles v line scope P (Some images) = IsJoint v line scope images × P scope (images_of_parents line images)

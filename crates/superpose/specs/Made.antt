-- What the calls of this crate make: clauses with the substitutions that made them.
use Rattle.std.specs.Prelude.{ℕ, ◌≡◌, ◌⊎◌, List, length, Option, Some, None}
use Rattle.std.specs.List.{Contains}
use Rattle.fof_terms.specs.declared.term.Term.{Term}
use Rattle.fof_terms.specs.Vocabulary.{Vocabulary}
use Rattle.clause_form.specs.declared.clause.Clause.{Clause}
use Rattle.clause_form.specs.Covers.{IsInstance, scope_of}
use Rattle.clause_rules.specs.Steps.{scope_of_both}
use Rattle.unify_terms.specs.Substitution.{image_at}
use Rattle.superpose.specs.declared.made.Made.{Made}
use Rattle.superpose.specs.Absent.{AreWithout, IsNotInDraft}
use Rattle.superpose.specs.Drafts.{Draft, IsClause, IsMadeBy}
use Rattle.superpose.specs.Inferences.{IsDraftOfOne, IsDraftOfTwo}

-- one of the drafts made the clause by the substitution beside it, which brings no new symbol into it
pub record IsMadeFrom (v : Vocabulary) (scope : List ℕ) (P : Draft → Type 0) (m : Made) : Type 0 where
  pub draft : Draft
  pub is_draft : P draft
  pub made : IsMadeBy v scope draft m.clause (image_at m.subst)
  pub clause : IsClause v m.clause
  pub size : length m.subst ≡ length scope
  pub no_new : (k : ℕ) → IsNotInDraft k draft → AreWithout k m.clause.lits

-- each clause that one of the drafts makes by any substitution is an instance of this one
abbrev pub HasAllAsInstances : Vocabulary → List ℕ → (Draft → Type 0) → Clause → Type 0
HasAllAsInstances v scope P c = (f : Draft) (e : Clause) (s : ℕ → Term) → P f → IsMadeBy v scope f e s
    → IsInstance v c e

-- the most general clause that the drafts make, or none exactly where no substitution makes one
abbrev pub IsBestAt : Vocabulary → List ℕ → (Draft → Type 0) → Option Made → Type 0
IsBestAt v scope P None = (f : Draft) (e : Clause) (s : ℕ → Term) → P f → IsMadeBy v scope f e s → ⊥
IsBestAt v scope P (Some m) = IsMadeFrom v scope P m × HasAllAsInstances v scope P m.clause

-- each clause that the draft makes by any substitution is an instance of one of these
abbrev pub IsSettledBy : Vocabulary → List ℕ → Draft → List Made → Type 0
IsSettledBy v scope f made = (e : Clause) (s : ℕ → Term) → IsMadeBy v scope f e s → (m : Made) × Contains made m
    × IsInstance v m.clause e

-- Those that were there are kept. Each other one is made from one of the drafts, and each of the drafts is settled.
pub record Adds (v : Vocabulary) (scope : List ℕ) (P : Draft → Type 0) (old new : List Made) : Type 0 where
  pub kept : (m : Made) → Contains old m → Contains new m
  pub each : (m : Made) → Contains new m → Contains old m ⊎ IsMadeFrom v scope P m
  pub whole : (f : Draft) → P f → IsSettledBy v scope f new

-- all inferences from the one clause, or from the two, were added
abbrev pub AddsFromOne : Vocabulary → Clause → List Made → List Made → Type 0
AddsFromOne v c old new = Adds v (scope_of c) (IsDraftOfOne c) old new

abbrev pub AddsFromTwo : Vocabulary → Clause → Clause → List Made → List Made → Type 0
AddsFromTwo v c d old new = Adds v (scope_of_both c d) (IsDraftOfTwo c d) old new

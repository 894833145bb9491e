-- Terms at places, for superposition.
use Rattle.std.specs.Prelude.{ℕ, ◌≡◌, List, Option, Some, None, slice_get, slice_set}
use Rattle.fof_terms.specs.declared.term.Term.{Term, App}
use Rattle.clause_form.specs.declared.clause.Lit.{Lit}
use Rattle.clause_rules.specs.Places.{lit_term_at, lit_put_at}
use Rattle.superpose.specs.code.Apart.{NeverMeet}

-- no term stands at the place that may have the same instance as the side
abbrev pub NoneStands : Term → Lit → List ℕ → Type 0
NoneStands side target place = (term : Term) → lit_term_at place target ≡ Some term → NeverMeet side term

-- the literal at the number has the new term at the place
abbrev pub AreReplaced : List Lit → ℕ → List ℕ → Term → List Lit → Type 0
AreReplaced lits j place new made = (target : Lit) → slice_get lits j ≡ Some target → made
    ≡ slice_set lits j (lit_put_at place new target)

-- the term at the place, which is no variable, or none where there is no such term
abbrev pub HasPart : Lit → List ℕ → Option Term → Type 0
HasPart k place None = (g : ℕ) (args : List Term) → lit_term_at place k ≡ Some (App g args) → ⊥
HasPart k place (Some u) = (g : ℕ) × (args : List Term) × (u ≡ App g args) × (lit_term_at place k ≡ Some u)

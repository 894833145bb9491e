-- The steps of a walk.
use Rattle.std.specs.Prelude.{ℕ, ◌≡◌, ◌++◌, ◌∷◌, [], ◌⊎◌, List, length, Option, Some, None}
use Rattle.std.specs.List.{Contains}
use Rattle.fof_terms.specs.Sorts.{Sorted}
use Rattle.fof_terms.specs.declared.form.Form.{Form}
use Rattle.clause_form.specs.declared.clause.AtomOf.{AtomOf}
use Rattle.clause_form.specs.declared.clause.Lit.{Lit}
use Rattle.kernel.specs.Statements.{Statements}
use Rattle.sat_step.specs.Decisions.{opposite}
use Rattle.chain_proofs.specs.Chains.{AreOver, FactsAreOver, HoldEach}
use Rattle.chain_proofs.specs.Facts.{Holds, all_false}
use Rattle.chain_proofs.specs.Stretches.{EndsIn, LeadTo}
use Rattle.chain_proofs.specs.declared.fact.Fact.{Fact}
use Rattle.chain_proofs.specs.declared.stretching.Step.{Step}
use Rattle.chain_proofs.specs.declared.stretching.Walk.{Walk}

-- the opposite of a literal that is not known, or all are known
abbrev pub IsMissing : List Lit → List Lit → Option Lit → Type 0
IsMissing known lits None = (x : Lit) → Contains lits x → Contains known x
IsMissing known lits (Some l) = (y : Lit) × Contains lits y × (Contains known y → ⊥) × (l ≡ opposite y)

-- of the literals only the opposite of this one is not known
abbrev pub LacksOnly : List Lit → List Lit → Lit → Type 0
LacksOnly known lits l = (x : Lit) → Contains lits x → (Contains known x → ⊥) → x ≡ opposite l

-- the literal is known too, by a step where it was not known before
pub record IsAdvanced (base : ℕ) (f : Fact) (l : Lit) (old : List Lit) (steps : List Step) (new : List Lit) (more : List Step) : Type 0 where
  pub lits : (new ≡ old ++ l ∷ []) ⊎ ((new ≡ old) × Contains old l)
  pub leads : (t : Statements) (first : List Lit) → length first ≡ base → Sorted t.vocabulary [] (all_false first) → Holds t f → Contains f.lits (opposite l) → LacksOnly old f.lits l → LeadTo t first steps old → LeadTo t first more new

-- a walk that has come to an end, or is to go on
pub record IsWalk (facts : List Fact) (from : List ℕ) (first known : List Lit) (left : List ℕ) (w : Walk) : Type 0 where
  pub leads : (t : Statements) → HoldEach t facts from → Sorted t.vocabulary [] (all_false first) → LeadTo t first w.steps known
  pub over : (atoms : List AtomOf) → AreOver atoms first → FactsAreOver atoms facts from → AreOver atoms known
  pub ends : EndsIn facts from known left w.last

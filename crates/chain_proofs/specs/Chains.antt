-- Clauses that are made by resolution from others, which stand as facts.
use Rattle.std.specs.Prelude.{ℕ, ◌≡◌, List, Some, slice_get}
use Rattle.std.specs.List.{Contains}
use Rattle.clause_form.specs.declared.clause.AtomOf.{AtomOf}
use Rattle.clause_form.specs.declared.clause.Lit.{Lit}
use Rattle.clause_learning.specs.Refutations.{HasSame, IsDerived}
use Rattle.kernel.specs.Statements.{Statements}
use Rattle.sat_step.specs.Decisions.{opposite}
use Rattle.chain_proofs.specs.Facts.{Holds}
use Rattle.chain_proofs.specs.declared.fact.Fact.{Fact}

-- each clause has a fact at its place, which has the same literals
abbrev pub AreStated : List (List Lit) → List Fact → Type 0
AreStated clauses facts = (k : ℕ) (q : List Lit) → slice_get clauses k ≡ Some q → (f : Fact) × (slice_get facts k ≡ Some f) × HasSame q f.lits

-- a clause that is derived from those of these numbers has none but these literals
pub record Derives (facts : List Fact) (from : List ℕ) (lits : List Lit) : Type 0 where
  pub clauses : List (List Lit)
  pub derived : List Lit
  pub stated : AreStated clauses facts
  pub chain : IsDerived opposite clauses from derived
  pub within : (x : Lit) → Contains derived x → Contains lits x

-- the facts of these numbers hold in the theory
abbrev pub HoldEach : Statements → List Fact → List ℕ → Type 0
HoldEach t facts from = (k : ℕ) (f : Fact) → Contains from k → slice_get facts k ≡ Some f → Holds t f

-- the atoms of the literals are among these
abbrev pub AreOver : List AtomOf → List Lit → Type 0
AreOver atoms lits = (x : Lit) → Contains lits x → Contains atoms x.atom

-- so are those of the facts of these numbers
abbrev pub FactsAreOver : List AtomOf → List Fact → List ℕ → Type 0
FactsAreOver atoms facts from = (k : ℕ) (f : Fact) → Contains from k → slice_get facts k ≡ Some f → AreOver atoms f.lits

-- What the solver answers.
use Rattle.std.specs.Prelude.{◌≡◌, ◌<◌, ℕ, Bool, false, List, map, length, slice_index_or}
use Rattle.std.specs.List.{Contains}
use Rattle.clause_learning.specs.declared.literal.Literal.{Literal}
use Rattle.clause_learning.specs.declared.clauses.Learned.{Learned}
use Rattle.clause_learning.specs.declared.solver.Outcome.{Outcome}
use Rattle.clause_learning.specs.declared.solver.Outcome.TheVariants.{Refuted, Valuation}
use Rattle.clause_learning.specs.Literals.{complement}
use Rattle.clause_learning.specs.Refutations.{Entry, IsRefutation}

-- a literal of the clause has the sign of its atom
abbrev pub MakesTrue : List Bool → List Literal → Type 0
MakesTrue signs clause = (x : Literal) × Contains clause x × (slice_index_or signs x.atom false ≡ x.positive)

-- a clause of the log
abbrev pub entry_of : Learned → Entry Literal
entry_of l = record { from = l.from; lits = l.lits }

-- a sign for each atom, such that each clause is true
pub record IsModel (atoms : ℕ) (inputs : List (List Literal)) (signs : List Bool) : Type 0 where
  pub many : length signs ≡ atoms
  pub all : (c : List Literal) → Contains inputs c → MakesTrue signs c

-- a refutation, or signs that make each clause true
abbrev pub Answers : ℕ → List (List Literal) → Outcome → Type 0
Answers atoms inputs (Refuted log) = IsRefutation complement inputs (map entry_of log)
Answers atoms inputs (Valuation signs) = IsModel atoms inputs signs

-- the atoms of the clauses are below this number
abbrev pub HasAtoms : ℕ → List (List Literal) → Type 0
HasAtoms atoms inputs = (c : List Literal) → Contains inputs c → (x : Literal) → Contains c x → x.atom < atoms

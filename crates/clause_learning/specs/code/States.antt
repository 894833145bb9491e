-- What holds between the turns of a search.
use Rattle.std.specs.Prelude.{◌≡◌, ◌<◌, ◌≤◌, ◌⊎◌, ◌++◌, ◌∷◌, [], ℕ, Bool, false, List, Option, Some, None, IfSome, map, length, reverse, slice_get}
use Rattle.std.specs.List.{Contains}
use Rattle.clause_learning.specs.declared.literal.Literal.{Literal}
use Rattle.clause_learning.specs.declared.trail.Value.{Value}
use Rattle.clause_learning.specs.declared.trail.Step.{Step}
use Rattle.clause_learning.specs.declared.trail.Trail.{Trail}
use Rattle.clause_learning.specs.declared.analysis.Stop.{Stop}
use Rattle.clause_learning.specs.declared.clauses.Clauses.{Clauses}
use Rattle.clause_learning.specs.declared.examining.Finding.{Finding}
use Rattle.clause_learning.specs.declared.examining.Finding.TheVariants.{Broken, Unit as Forced, Loose}
use Rattle.clause_learning.specs.declared.solver.Solver.{Solver}
use Rattle.clause_learning.specs.declared.solver.Turn.{Turn}
use Rattle.clause_learning.specs.declared.solver.Turn.TheVariants.{Further, Refuted, Settled}
use Rattle.clause_learning.specs.Literals.{complement}
use Rattle.clause_learning.specs.Refutations.{IsLog, IsRefutation}
use Rattle.clause_learning.specs.Valuations.{HasAtoms, entry_of}
use Rattle.clause_learning.specs.code.Trails.{clauses_of, value_at, Fails, AllFail, IsConflict, IsReason, IsTrail}
use Rattle.clause_learning.specs.code.Cuts.{IsFreeAt}
use Rattle.clause_learning.specs.code.Marked.{AreClear}
use Rattle.clause_learning.specs.code.Weights.{weight_of, ceiling}

-- a clause that is false; or one with one literal that has no value, and else false ones; or one with a literal that is
-- not false
abbrev pub IsFound : List (Option Value) → List Literal → Finding → Type 0
IsFound values c Broken = AllFail values c
IsFound values c (Forced l) = (value_at values l.atom ≡ None) × IsReason c l values
IsFound values c Loose = (x : Literal) × Contains c x × (Fails values x → ⊥)

-- the clause of this number stands so
abbrev pub IsFoundAt : List (List Literal) → List (Option Value) → ℕ → Finding → Type 0
IsFoundAt clauses values k f = (c : List Literal) × (slice_get clauses k ≡ Some c) × IsFound values c f

-- each clause has a literal that is not false
abbrev pub AllLoose : List (Option Value) → List (List Literal) → Type 0
AllLoose values clauses = (c : List Literal) → Contains clauses c → (x : Literal) × Contains c x × (Fails values x → ⊥)

-- an atom that has no value
abbrev pub IsOpen : List (Option Value) → ℕ → Type 0
IsOpen values a = (a < length values) × (value_at values a ≡ None)

-- each atom has a value
abbrev pub AllValued : List (Option Value) → Type 0
AllValued values = (a : ℕ) → a < length values → value_at values a ≡ None → ⊥

-- the sign of an atom that has this value
abbrev pub sign_of : Option Value → Bool
sign_of (Some v) = v.positive
sign_of None = false

-- clauses over that many atoms, with a log of what was learned
pub record AreLearned (atoms : ℕ) (c : Clauses) : Type 0 where
  pub log : IsLog complement c.inputs (map entry_of c.log)
  pub within : HasAtoms atoms (clauses_of c)

-- between two turns
pub record IsState (s : Solver) : Type 0 where
  pub clauses : AreLearned (length s.trail.values) s.clauses
  pub trail : IsTrail (clauses_of s.clauses) s.trail
  pub marks : AreClear (length s.trail.values) s.marks

-- before the first turn
pub record IsBegun (atoms : ℕ) (given : List (List Literal)) (s : Solver) : Type 0 where
  pub state : IsState s
  pub inputs : s.clauses.inputs ≡ given
  pub many : length s.trail.values ≡ atoms

-- the trail has more steps, or as many; a clause that was found is false
pub record IsPropagated (clauses : List (List Literal)) (old new : Trail) (found : Option ℕ) : Type 0 where
  pub many : length new.values ≡ length old.values
  pub trail : IsTrail clauses new
  pub heavier : weight_of old ≤ weight_of new
  pub conflict : IfSome found (IsConflict clauses new.values)

-- fewer restarts are left, or as many, and the trail weighs more
abbrev pub IsNearer : Solver → Solver → Type 0
IsNearer old new = (new.restarts.left < old.restarts.left)
    ⊎ ((new.restarts.left ≡ old.restarts.left) × (weight_of old.trail < weight_of new.trail))

-- the same clauses were given, and the search is further on
pub record IsFurther (old new : Solver) : Type 0 where
  pub state : IsState new
  pub inputs : new.clauses.inputs ≡ old.clauses.inputs
  pub many : length new.trail.values ≡ length old.trail.values
  pub nearer : IsNearer old new

-- each atom has a value, and no clause that was given is false
pub record IsSettled (old new : Solver) : Type 0 where
  pub inputs : new.clauses.inputs ≡ old.clauses.inputs
  pub many : length new.trail.values ≡ length old.trail.values
  pub valued : AllValued new.trail.values
  pub loose : AllLoose new.trail.values old.clauses.inputs

-- the log refutes the clauses that were given
pub record IsOver (old new : Solver) : Type 0 where
  pub inputs : new.clauses.inputs ≡ old.clauses.inputs
  pub refuted : IsRefutation complement new.clauses.inputs (map entry_of new.clauses.log)

-- the search is further on, or it is at its end
abbrev pub IsTurned : Solver → Solver → Turn → Type 0
IsTurned old new Further = IsFurther old new
IsTurned old new Refuted = IsOver old new
IsTurned old new Settled = IsSettled old new

-- One step more that follows, behind those to be kept. So the trail weighs as much as any other with the same steps up to
-- the one that is not kept, which was taken freely.
pub record NotesOne (old : Solver) (stop : Stop) (new : Solver) : Type 0 where
  pub state : IsState new
  pub inputs : new.clauses.inputs ≡ old.clauses.inputs
  pub many : length new.trail.values ≡ length old.trail.values
  pub left : new.restarts.left ≡ old.restarts.left
  pub weight : (s : Step) → IsFreeAt (old.trail.steps ++ s ∷ []) stop.keep
      → ceiling (length old.trail.values) (s ∷ reverse old.trail.steps) ≤ weight_of new.trail

-- a clause is learned, and gives one step more
abbrev pub IsNoted : Solver → Stop → Solver → Turn → Type 0
IsNoted old stop new Further = NotesOne old stop new
IsNoted old stop new Refuted = ⊥
IsNoted old stop new Settled = ⊥

-- What is held while clauses are resolved: a clause that follows, whose atoms are marked.
use Rattle.std.specs.Prelude.{◌≡◌, ◌≢◌, ◌<◌, ◌⊎◌, ◌++◌, ◌∷◌, [], ℕ, length, true, List, Option, Some, None, reverse}
use Rattle.std.specs.List.{Contains}
use Rattle.clause_learning.specs.declared.literal.Literal.{Literal}
use Rattle.clause_learning.specs.declared.trail.Value.{Value}
use Rattle.clause_learning.specs.declared.trail.Step.{Step}
use Rattle.clause_learning.specs.declared.trail.Trail.{Trail}
use Rattle.clause_learning.specs.declared.marks.Marks.{Marks}
use Rattle.clause_learning.specs.declared.analysis.Stop.{Stop}
use Rattle.clause_learning.specs.Literals.{complement}
use Rattle.clause_learning.specs.Refutations.{IsDerived}
use Rattle.clause_learning.specs.code.Trails.{value_at, Fails, IsConflict, IsTrail}
use Rattle.clause_learning.specs.code.Weights.{weight_of, ceiling}
use Rattle.clause_learning.specs.code.Cuts.{IsFreeAt, AreUnmarkedFrom}
use Rattle.clause_learning.specs.code.Marked.{mark_at, AreClear, AreListed, AreMarked, IsUnmarkedAt}

-- a clause that follows, and its marks
pub record IsFollowing (clauses : List (List Literal)) (from : List ℕ) (m : Marks) (lits : List Literal) : Type 0 where
  pub derived : IsDerived complement clauses from lits
  pub marked : (x : Literal) → Contains lits x → mark_at m x.atom ≡ true
  pub only : (a : ℕ) → mark_at m a ≡ true → (x : Literal) × Contains lits x × (x.atom ≡ a)
  pub listed : AreListed m

-- a clause that follows and is false
pub record IsHeld (clauses : List (List Literal)) (from : List ℕ) (m : Marks) (values : List (Option Value)) : Type 0 where
  pub lits : List Literal
  pub follows : IsFollowing clauses from m lits
  pub fails : (x : Literal) → Contains lits x → Fails values x

-- a clause that follows, and was false before l lost its value
pub record IsHeldAt (clauses : List (List Literal)) (from : List ℕ) (m : Marks) (values : List (Option Value)) (l : Literal) : Type 0 where
  pub lits : List Literal
  pub follows : IsFollowing clauses from m lits
  pub free : value_at values l.atom ≡ None
  pub fails : (x : Literal) → Contains lits x → Fails values x ⊎ (x ≡ complement l)

-- the atoms of the clause are marked besides, but for this one
pub record IsMerged (old : Marks) (clause : List Literal) (atom : ℕ) (new : Marks) : Type 0 where
  pub mid : Marks
  pub marked : AreMarked old clause mid
  pub unmarked : IsUnmarkedAt mid atom new

-- The walk stops at a step, where what is held has the opposite of its literal, and steps can be taken back to one that
-- was taken freely, none of which it has; else what it holds is false.
abbrev pub IsPassed : List (List Literal) → List ℕ → Marks → Trail → Step → Option ℕ → Type 0
IsPassed clauses from m t s (Some k) = IsHeldAt clauses from m t.values s.literal × (mark_at m s.literal.atom ≡ true)
    × IsFreeAt (t.steps ++ s ∷ []) k × AreUnmarkedFrom t.steps m k
IsPassed clauses from m t s None = IsHeld clauses from m t.values

-- The walk stopped: what is held has the opposite of the literal there, whose step is gone; and of the steps up to that,
-- the one behind those to be kept was taken freely, and no later one is of an atom that is held.
pub record IsStoppedAt (clauses : List (List Literal)) (from : List ℕ) (m : Marks) (t : Trail) (stop : Stop) : Type 0 where
  pub held : IsHeldAt clauses from m t.values stop.literal
  pub marked : mark_at m stop.literal.atom ≡ true
  pub within : stop.literal.atom < length t.values
  pub trail : IsTrail clauses t
  pub short : length t.steps < length t.values
  pub step : Step
  pub free : IsFreeAt (t.steps ++ step ∷ []) stop.keep
  pub unmarked : AreUnmarkedFrom t.steps m stop.keep

-- the same, and the trail with that step weighs as much as before or can grow so
pub record IsStopped (clauses : List (List Literal)) (from : List ℕ) (m : Marks) (old new : Trail) (stop : Stop) : Type 0 where
  pub here : IsStoppedAt clauses from m new stop
  pub many : length new.values ≡ length old.values
  pub before : weight_of old < ceiling (length new.values) (here.step ∷ reverse new.steps)

-- the walk came to the trail's begin, and what is held has no literal; or it stopped
abbrev pub IsWalked : List (List Literal) → List ℕ → Marks → Trail → Trail → Option Stop → Type 0
IsWalked clauses from m old new None = IsDerived complement clauses from []
IsWalked clauses from m old new (Some stop) = IsStopped clauses from m old new stop

-- the atom has a value that it was given before so many steps
abbrev pub IsBefore : List (Option Value) → ℕ → ℕ → Type 0
IsBefore values a keep = (v : Value) × (value_at values a ≡ Some v) × (v.place < keep)

-- so have the literals of other atoms than this
abbrev pub AreBefore : List (Option Value) → List Literal → ℕ → ℕ → Type 0
AreBefore values lits a keep = (x : Literal) → Contains lits x → x.atom ≢ a → IsBefore values x.atom keep

-- l is the asserted literal, and the others are those of marked atoms that are false
pub record IsCollected (l : Literal) (values : List (Option Value)) (m : Marks) (lits : List Literal) : Type 0 where
  pub asserted : Contains lits l
  pub only : (x : Literal) → Contains lits x → (x ≡ l) ⊎ ((mark_at m x.atom ≡ true) × Fails values x)
  pub all : (x : Literal) → Contains m.touched x.atom → mark_at m x.atom ≡ true → Fails values x → Contains lits x

-- from no clause and no mark, the clause of this number is held
abbrev pub IsBegun : List (List Literal) → ℕ → List ℕ → Marks → List ℕ → Marks → Type 0
IsBegun clauses k from m from' m' = (values : List (Option Value)) (atoms : ℕ) → from ≡ [] → AreClear atoms m → AreListed m → IsConflict clauses values k → IsHeld clauses from' m' values

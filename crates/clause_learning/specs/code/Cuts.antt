-- How far steps are taken back.
use Rattle.std.specs.Prelude.{◌≡◌, ◌≢◌, ◌≤◌, ◌++◌, ℕ, false, List, Some, None, length, slice_get}
use Rattle.std.specs.List.{Contains}
use Rattle.clause_learning.specs.declared.literal.Literal.{Literal}
use Rattle.clause_learning.specs.declared.trail.Step.{Step}
use Rattle.clause_learning.specs.declared.trail.Trail.{Trail}
use Rattle.clause_learning.specs.declared.marks.Marks.{Marks}
use Rattle.clause_learning.specs.code.Marked.{mark_at}
use Rattle.clause_learning.specs.code.Trails.{value_at, IsTrail}

-- the step at this place was taken freely
abbrev pub IsFreeAt : List Step → ℕ → Type 0
IsFreeAt steps k = (s : Step) × (slice_get steps k ≡ Some s) × (s.reason ≡ None)

-- the steps from this place on are of atoms that are not marked
abbrev pub AreUnmarkedFrom : List Step → Marks → ℕ → Type 0
AreUnmarkedFrom steps m k = (j : ℕ) (s : Step) → k ≤ j → slice_get steps j ≡ Some s → mark_at m s.literal.atom ≡ false

-- the step at this place was taken freely, and neither it nor a later one is of a marked atom
pub record IsCut (steps : List Step) (m : Marks) (k : ℕ) : Type 0 where
  pub free : IsFreeAt steps k
  pub unmarked : AreUnmarkedFrom steps m k

-- that many steps are left, and the atoms of the others have no value
pub record IsCutTo (old : Trail) (keep : ℕ) (new : Trail) : Type 0 where
  pub many : length new.values ≡ length old.values
  pub gone : List Step
  pub steps : old.steps ≡ new.steps ++ gone
  pub left : length new.steps ≡ keep
  pub trail : (clauses : List (List Literal)) → IsTrail clauses old → IsTrail clauses new
  pub values : (a : ℕ) → ((s : Step) → Contains gone s → s.literal.atom ≢ a) → value_at new.values a ≡ value_at old.values a
  pub free : (a : ℕ) → value_at old.values a ≡ None → value_at new.values a ≡ None

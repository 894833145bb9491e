-- Marks on atoms.
use Rattle.std.specs.Prelude.{◌≡◌, ◌≢◌, ◌<◌, ◌⊎◌, ℕ, Bool, true, false, List, length, slice_index_or}
use Rattle.std.specs.List.{Contains}
use Rattle.clause_learning.specs.declared.literal.Literal.{Literal}
use Rattle.clause_learning.specs.declared.marks.Marks.{Marks}

-- whether the atom is marked
abbrev pub mark_at : Marks → ℕ → Bool
mark_at m a = slice_index_or m.marks a false

-- that many atoms, none of which is marked
pub record AreClear (atoms : ℕ) (m : Marks) : Type 0 where
  pub many : length m.marks ≡ atoms
  pub none : (a : ℕ) → mark_at m a ≡ false

-- each marked atom is in the list
abbrev pub AreListed : Marks → Type 0
AreListed m = (a : ℕ) → mark_at m a ≡ true → Contains m.touched a

-- the atoms of the literals are below this number
abbrev pub AreWithin : ℕ → List Literal → Type 0
AreWithin atoms lits = (x : Literal) → Contains lits x → x.atom < atoms

-- this atom is marked now, and others as before
pub record IsMarkedAt (old : Marks) (atom : ℕ) (new : Marks) : Type 0 where
  pub many : length new.marks ≡ length old.marks
  pub marked : mark_at new atom ≡ true
  pub others : (a : ℕ) → a ≢ atom → mark_at new a ≡ mark_at old a
  pub listed : AreListed old → AreListed new

-- this atom is not marked now, and others as before
pub record IsUnmarkedAt (old : Marks) (atom : ℕ) (new : Marks) : Type 0 where
  pub many : length new.marks ≡ length old.marks
  pub unmarked : mark_at new atom ≡ false
  pub others : (a : ℕ) → a ≢ atom → mark_at new a ≡ mark_at old a
  pub touched : new.touched ≡ old.touched

-- the atoms of the literals are marked now, and others as before
pub record AreMarked (old : Marks) (lits : List Literal) (new : Marks) : Type 0 where
  pub many : length new.marks ≡ length old.marks
  pub kept : (a : ℕ) → mark_at old a ≡ true → mark_at new a ≡ true
  pub marked : (x : Literal) → Contains lits x → mark_at new x.atom ≡ true
  pub only : (a : ℕ) → mark_at new a ≡ true → (mark_at old a ≡ true) ⊎ ((x : Literal) × Contains lits x × (x.atom ≡ a))
  pub listed : AreListed old → AreListed new

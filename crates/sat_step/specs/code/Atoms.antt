-- Atoms, each with its number, found by codes.
use Rattle.std.specs.Prelude.{◌≡◌, ◌++◌, ℕ, List, Some, map, slice_get}
use Rattle.clause_form.specs.declared.clause.AtomOf.{AtomOf}
use Rattle.sat_step.specs.declared.atoms.Atoms.{Atoms}
use Rattle.sat_step.specs.Codes.{code_of}

-- no atom stands twice in the list
abbrev pub AreDistinct : List AtomOf → Type 0
AreDistinct atoms = (i j : ℕ) (a : AtomOf) → slice_get atoms i ≡ Some a → slice_get atoms j ≡ Some a → i ≡ j

-- distinct atoms, and their codes in the same order
pub record AreNumbered (t : Atoms) : Type 0 where
  pub codes : map (λ k. k.items) t.keys.keys ≡ map code_of t.atoms
  pub distinct : AreDistinct t.atoms

-- the first list with more behind it
abbrev pub IsPrefix : List AtomOf → List AtomOf → Type 0
IsPrefix old new = (more : List AtomOf) × (new ≡ old ++ more)

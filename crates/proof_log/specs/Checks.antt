-- Why entries do not refute a theory, and what a check leaves of the theory.
use Rattle.std.specs.Prelude.{◌≡◌, ◌⊎◌, ℕ, List, take, slice_get, Some, Result, Ok, Err}
use Rattle.kernel.specs.Statements.{Statements, IsRefuted}
use Rattle.kernel.specs.Entries.{Legal, Admits}
use Rattle.kernel.specs.declared.entry.Entry.{Entry}
use Rattle.proof_log.specs.declared.checking.CheckFault.{CheckFault}
use Rattle.proof_log.specs.declared.checking.CheckFault.TheVariants as fault

-- the entries before it are legal in turn, and the entry is not legal then
pub record IsFirstIllegal (t : Statements) (entries : List Entry) (number : ℕ) : Type 0 where
  pub entry : Entry
  pub there : slice_get entries number ≡ Some entry
  pub reached : Statements
  pub before : Admits t (take number entries) reached
  pub illegal : Legal reached entry → ⊥

-- all entries are legal in turn, and the last formula is not falsehood then
pub record IsNotRefuted (t : Statements) (entries : List Entry) : Type 0 where
  pub reached : Statements
  pub all : Admits t entries reached
  pub kept_open : IsRefuted reached → ⊥

-- Want of memory tells nothing.
abbrev pub IsCheckFault : Statements → List Entry → CheckFault → Type 0
IsCheckFault t entries (fault.Illegal number) = IsFirstIllegal t entries number
IsCheckFault t entries fault.NotRefuted = IsNotRefuted t entries
IsCheckFault t entries fault.Memory = Unit {0}

-- the fault, or want of memory
abbrev pub IsFaultedFor : CheckFault → Result (Unit {0}) CheckFault → Type 0
IsFaultedFor expected (Ok done) = ⊥
IsFaultedFor expected (Err e) = (e ≡ expected) ⊎ (e ≡ fault.Memory)

-- The theory has the entries before the one that is not legal, or all of them. Where memory ran out, it has some number
-- of the first.
abbrev pub Leaves : Statements → List Entry → Result (Unit {0}) CheckFault → Statements → Type 0
Leaves t entries (Ok done) u = Admits t entries u
Leaves t entries (Err (fault.Illegal number)) u = Admits t (take number entries) u
Leaves t entries (Err fault.NotRefuted) u = Admits t entries u
Leaves t entries (Err fault.Memory) u = (number : ℕ) × Admits t (take number entries) u

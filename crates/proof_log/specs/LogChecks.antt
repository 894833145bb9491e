-- What checking the text of a log answers, and what it leaves of the theory (`check_log`).
use Rattle.std.specs.Prelude.{◌≡◌, ◌<◌, ◌⊎◌, ℕ, List, length, take, Result, Ok, Err}
use Rattle.tptp_base.specs.declared.read.TheConstants.{FILE_SIZE}
use Rattle.kernel.specs.Statements.{Statements}
use Rattle.kernel.specs.Entries.{Admits, Refutes}
use Rattle.kernel.specs.declared.entry.Entry.{Entry}
use Rattle.proof_log.specs.Logs.{IsFirstFault, IsFirstDeep}
use Rattle.proof_log.specs.Answers.{IsLogOf}
use Rattle.proof_log.specs.Reading.{Reading, HasRead}
use Rattle.proof_log.specs.Checks.{IsFirstIllegal, IsNotRefuted}
use Rattle.proof_log.specs.declared.log_check.LogCheckFault.{LogCheckFault}
use Rattle.proof_log.specs.declared.log_check.LogCheckFault.TheVariants as fault

-- the text is that of some entries of which this is true
abbrev pub IsLogWith : ℕ → List ℕ → (List Entry → Type 0) → Type 0
IsLogWith limit text p = (entries : List Entry) × IsLogOf limit text entries × p entries

-- So many entries refute the theory; or the text is no log; or it is one, and its entries do not refute the theory. Want
-- of memory tells nothing.
abbrev pub IsCheckOf : ℕ → Statements → List ℕ → Result ℕ LogCheckFault → Type 0
IsCheckOf limit t text (Ok count) = IsLogWith limit text (λ entries. Refutes t entries × (count ≡ length entries))
IsCheckOf limit t text (Err (fault.Text offset)) = IsFirstFault limit text offset
IsCheckOf limit t text (Err (fault.Deep offset)) = IsFirstDeep limit text offset
IsCheckOf limit t text (Err fault.Limit) = FILE_SIZE < length text
IsCheckOf limit t text (Err (fault.Illegal number)) = IsLogWith limit text (λ entries. IsFirstIllegal t entries number)
IsCheckOf limit t text (Err fault.NotRefuted) = IsLogWith limit text (IsNotRefuted t)
IsCheckOf limit t text (Err fault.Memory) = Unit {0}

-- the theory as it was, or with entries with which the text begins
abbrev pub HasTaken : ℕ → Statements → List ℕ → Statements → Type 0
HasTaken limit t text u = (u ≡ t)
    ⊎ ((entries : List Entry) × (log : Reading) × HasRead limit entries log × (log.text ≡ text) × Admits t entries u)

-- The theory has the entries before the one that is not legal, or all of them. Where the text is no log or memory ran
-- out, it has some of the first.
abbrev pub LeavesOf : ℕ → Statements → List ℕ → Result ℕ LogCheckFault → Statements → Type 0
LeavesOf limit t text (Ok count) u = IsLogWith limit text (λ entries. Admits t entries u)
LeavesOf limit t text (Err (fault.Illegal number)) u = IsLogWith limit text (λ entries. Admits t (take number entries) u)
LeavesOf limit t text (Err fault.NotRefuted) u = IsLogWith limit text (λ entries. Admits t entries u)
LeavesOf limit t text (Err _) u = HasTaken limit t text u

-- what a check answers of these entries, or want of memory
abbrev pub IsCheckedAs : Statements → List Entry → Result ℕ LogCheckFault → Type 0
IsCheckedAs t entries (Ok count) = Refutes t entries × (count ≡ length entries)
IsCheckedAs t entries (Err (fault.Illegal number)) = IsFirstIllegal t entries number
IsCheckedAs t entries (Err fault.NotRefuted) = IsNotRefuted t entries
IsCheckedAs t entries (Err e) = e ≡ fault.Memory

-- the fault, or want of memory
abbrev pub IsRejectedFor : LogCheckFault → Result ℕ LogCheckFault → Type 0
IsRejectedFor expected (Ok count) = ⊥
IsRejectedFor expected (Err e) = (e ≡ expected) ⊎ (e ≡ fault.Memory)

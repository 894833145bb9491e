-- When the log in a file refutes what a problem gives, by the bytes of the file alone.
use Rattle.std.specs.Prelude.{◌≡◌, ℕ, ◌-◌, List, length, Some, Ok}
use Rattle.std.specs.declared.option.Option.{Option}
use Rattle.tptp_base.specs.Read.{IsOver}
use Rattle.tptp_base.specs.Store.{Files, file_at}
use Rattle.tptp_base.specs.declared.limit.LimitName.{LimitName}
use Rattle.kernel.specs.Statements.{Statements}
use Rattle.kernel.specs.Entries.{Refutes}
use Rattle.kernel.specs.declared.entry.Entry.{Entry}
use Rattle.include_resolve.specs.declared.problem.Problem.{Problem}
use Rattle.include_resolve.specs.Resolved.{Resolves}
use Rattle.proof_log.specs.Answers.{IsLogOf}
use Rattle.proof_log.specs.declared.reader.TheConstants.{MAX_NESTING}
use Rattle.read_problems.specs.Given.{IsGiven}
use Rattle.read_problems.specs.Denoted.{IsProblemRefusal}
use Rattle.read_problems.specs.Ending.{Ending}
use Rattle.read_problems.specs.declared.refusals.TheConstants.{TOTAL_SIZE}

-- no limit forbids to read so many bytes, where so many were read before
abbrev pub IsInBudget : ℕ → ℕ → Type 0
IsInBudget read size = (limit : LimitName) → IsOver limit (TOTAL_SIZE - read) size → ⊥

-- The file has the text of entries that refute the theory, within the limits of size and of nesting.
pub record HasRefutation (files : Files) (file : List ℕ) (theory : Statements) (read : ℕ) : Type 0 where
  pub text : List ℕ
  pub there : file_at files file ≡ Some text
  pub fits : IsInBudget read (length text)
  pub entries : List Entry
  pub is : IsLogOf MAX_NESTING text entries
  pub refutes : Refutes theory entries

-- The problem gives a theory, and the status is 0 exactly where the log in the file refutes it.
pub record IsExact (files : Files) (root : Option (List ℕ)) (problem log : List ℕ) (ending : Ending) : Type 0 where
  pub theory : Statements
  pub read : ℕ
  pub given : IsGiven (Some files) root problem theory read
  pub only : ending.status ≡ 0 → HasRefutation files log theory read
  pub always : HasRefutation files log theory read → ending.status ≡ 0

-- a fault of the problem is said, and the status is not 0
abbrev pub IsRefused : Files → Option (List ℕ) → List ℕ → Ending → Type 0
IsRefused files root problem ending = IsProblemRefusal (Some files) root problem ending × (ending.status ≡ 0 → ⊥)

-- the problem resolves in the second store as it does in the first
abbrev pub GivesTheSame : Files → Files → Option (List ℕ) → List ℕ → Type 0
GivesTheSame files after root problem =
    (whole : Problem) → Resolves (Some files) root problem (Ok whole) → Resolves (Some after) root problem (Ok whole)

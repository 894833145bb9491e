-- How a run ends that meets no fault of the outside: the status, and the texts that the two sinks take.
use Rattle.std.specs.Prelude.{◌≡◌, ℕ, List, [], ◌++◌, length, codes, None, Some, ◌⊎◌, ◌≤◌}
use Rattle.std.specs.declared.option.Option.{Option}
use Rattle.tptp_base.specs.Store.{Files, file_at, HasFile, IsMissing}
use Rattle.tptp_base.specs.Read.{IsOver}
use Rattle.tptp_base.specs.declared.limit.LimitName.{LimitName}
use Rattle.tptp_base.specs.declared.limit.LimitName.TheVariants.{FileSize, TotalSize, IncludeDepth, Nesting, Variables}
use Rattle.tptp_base.specs.declared.limit.LimitName.TheVariants.{Lines, Symbols, Sorts}
use Rattle.szs_report.specs.Report.{text_line}

pub record Ending : Type 0 where
  pub status : ℕ
  pub out : List ℕ
  pub log : List ℕ

-- an ending with this text on out, and no log
abbrev pub says : ℕ → List ℕ → Ending
says status out = record { status = status; out = out; log = [] }

abbrev pub no_such_file : List ℕ → Ending
no_such_file name = says 3 (text_line (name ++ codes ": no such file"))

-- the name of a limit, as it is printed
abbrev pub limit_text : LimitName → List ℕ
limit_text FileSize = codes "file size"
limit_text TotalSize = codes "total size"
limit_text IncludeDepth = codes "include depth"
limit_text Nesting = codes "nesting"
limit_text Variables = codes "variables"
limit_text Lines = codes "lines"
limit_text Symbols = codes "symbols"
limit_text Sorts = codes "sorts"

abbrev pub over_limit : List ℕ → LimitName → Ending
over_limit name limit = says 7 (text_line (name ++ (codes ": limit " ++ limit_text limit)))

-- The bytes of a file go on to the rest, unless the file is missing or over a limit.
pub record AfterFile (files : Files) (name : List ℕ) (budget : ℕ) (Rest : List ℕ → Ending → Type 0) (ending : Ending) : Type 0 where
  pub missing : file_at files name ≡ None → ending ≡ no_such_file name
  pub limit : (limit : LimitName) (text : List ℕ) → file_at files name ≡ Some text → IsOver limit budget (length text)
      → ending ≡ over_limit name limit
  pub read : (text : List ℕ) → file_at files name ≡ Some text
      → ((limit : LimitName) → IsOver limit budget (length text) → ⊥) → Rest text ending

-- a file is missing, or over a limit, and this is said
abbrev pub IsReadRefusal : Files → List ℕ → ℕ → Ending → Type 0
IsReadRefusal files name budget ending = ((file_at files name ≡ None) × (ending ≡ no_such_file name))
    ⊎ ((limit : LimitName) × (text : List ℕ) × (file_at files name ≡ Some text) × IsOver limit budget (length text) × (ending ≡ over_limit name limit))

-- the same of any store: where it does not tell its files, any may be missing or over a limit
abbrev pub IsUnread : Option Files → List ℕ → ℕ → Ending → Type 0
IsUnread told name budget ending = (IsMissing told name × (ending ≡ no_such_file name))
    ⊎ ((limit : LimitName) × HasFile told name (λ file. IsOver limit budget (length file)) × (ending ≡ over_limit name limit))

-- a status that is an answer, and no fault of the outside or want of memory
abbrev pub IsAnswer : ℕ → Type 0
IsAnswer status = (status ≤ 3) ⊎ (status ≡ 7)

-- How far a log is read, an entry at a time (`LogEntries`).
use Rattle.std.specs.Prelude.{◌≡◌, ℕ, List, ◌++◌}
use Rattle.first_fault.specs.Nesting.{Within}
use Rattle.kernel.specs.declared.entry.Entry.{Entry}
use Rattle.proof_log.specs.Entries.{AreLogged, log_text, nested_log}

-- a text, and what of it is not yet read
pub record Reading : Type 0 where
  pub text : List ℕ
  pub rest : List ℕ

-- These entries were read: their text stands before the rest, and no tree in them is nested too deep.
pub record HasRead (limit : ℕ) (entries : List Entry) (log : Reading) : Type 0 where
  pub logged : AreLogged entries
  pub is : log_text entries ++ log.rest ≡ log.text
  pub within : Within limit (nested_log entries)

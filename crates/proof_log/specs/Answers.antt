-- What reading a log answers.
use Rattle.std.specs.Prelude.{◌≡◌, ◌<◌, ◌⊎◌, ℕ, List, [], ◌∷◌, ◌++◌, length, Option, Some, None, Result, Ok, Err}
use Rattle.first_fault.specs.Nesting.{Within}
use Rattle.kernel.specs.declared.entry.Entry.{Entry}
use Rattle.tptp_base.specs.declared.read.TheConstants.{FILE_SIZE}
use Rattle.proof_log.specs.declared.reader.LogFault.{LogFault}
use Rattle.proof_log.specs.Entries.{AreLogged, log_text, nested_log}
use Rattle.proof_log.specs.Reading.{Reading, HasRead}
use Rattle.proof_log.specs.Logs.{IsFirstFault, IsFirstDeep}
use Rattle.proof_log.specs.declared.reader.LogFault.TheVariants as fault

-- The entries have the text, and no tree in them is nested too deep.
pub record IsLogOf (limit : ℕ) (text : List ℕ) (entries : List Entry) : Type 0 where
  pub logged : AreLogged entries
  pub is : log_text entries ≡ text
  pub within : Within limit (nested_log entries)

-- No tree in the entries is nested deeper than the limit.
abbrev pub NestWithin : ℕ → List Entry → Type 0
NestWithin limit entries = Within limit (nested_log entries)

-- What each answer tells of the text. Want of memory tells nothing.
abbrev pub Tells : ℕ → List ℕ → LogFault → Type 0
Tells limit text (fault.Text offset) = IsFirstFault limit text offset
Tells limit text (fault.Deep offset) = IsFirstDeep limit text offset
Tells limit text fault.Limit = FILE_SIZE < length text
Tells limit text fault.Memory = Unit {0}

abbrev pub Answers : ℕ → List ℕ → Result (List Entry) LogFault → Type 0
Answers limit text (Ok entries) = IsLogOf limit text entries
Answers limit text (Err e) = Tells limit text e

-- the fault, or want of memory
abbrev pub IsRefusedFor : LogFault → Result (List Entry) LogFault → Type 0
IsRefusedFor expected (Ok entries) = ⊥
IsRefusedFor expected (Err e) = (e ≡ expected) ⊎ (e ≡ fault.Memory)

-- the entries, or want of memory
abbrev pub IsReadAs : List Entry → Result (List Entry) LogFault → Type 0
IsReadAs entries (Ok found) = found ≡ entries
IsReadAs entries (Err e) = e ≡ fault.Memory

-- What the next step answers, where these entries were read: one entry more, or what reading the whole text answers.
abbrev pub GoesOn : ℕ → List Entry → Reading → Result (Option Entry) LogFault → Reading → Type 0
GoesOn limit entries old (Ok (Some entry)) new = HasRead limit (entries ++ entry ∷ []) new
GoesOn limit entries old (Ok None) new = Answers limit old.text (Ok entries)
GoesOn limit entries old (Err e) new = Answers limit old.text (Err e)

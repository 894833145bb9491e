-- How the command `check` ends: the first fault of the problem is said, or that of the log's file or its text, or what
-- the kernel makes of its entries, which starts from what the problem gives.
use Rattle.std.specs.Prelude.{◌≡◌, ◌⊎◌, ℕ, ◌+◌, ◌-◌, List, ◌++◌, length, codes, decimal, Ok, Err}
use Rattle.std.specs.declared.option.Option.{Option}
use Rattle.tptp_base.specs.Store.{Files}
use Rattle.kernel.specs.Statements.{Statements}
use Rattle.kernel.specs.Entries.{Refutes}
use Rattle.kernel.specs.declared.entry.Entry.{Entry}
use Rattle.proof_log.specs.Checks.{IsCheckFault}
use Rattle.proof_log.specs.declared.checking.CheckFault.{CheckFault}
use Rattle.proof_log.specs.declared.checking.CheckFault.TheVariants.{Illegal, NotRefuted, Memory as OutOfMemory}
use Rattle.proof_log.specs.declared.reader.LogFault.{LogFault}
use Rattle.proof_log.specs.declared.reader.LogFault.TheVariants.{Text, Deep, Limit, Memory}
use Rattle.proof_log.specs.declared.reader.TheConstants.{MAX_NESTING}
use Rattle.read_problems.specs.Denoted.{AfterResolved, AfterDenoted}
use Rattle.read_problems.specs.Ending.{Ending, says, AfterFile}
use Rattle.szs_report.specs.Report.{text_line}
use Rattle.read_problems.specs.declared.refusals.TheConstants.{TOTAL_SIZE}
use Rattle.proof_log.specs.Answers as reader
use Rattle.read_problems.specs.Given.{given_theory}

abbrev pub log_fault : ℕ → Ending
log_fault offset = says 1 (text_line (codes "log fault at offset " ++ decimal offset))

abbrev pub illegal_entry : ℕ → Ending
illegal_entry number = says 1 (text_line (codes "entry " ++ (decimal number ++ codes " is illegal")))

abbrev pub not_refuted : Ending
not_refuted = says 1 (text_line (codes "not refuted"))

abbrev pub refuted : ℕ → Ending
refuted count = says 0 (text_line (codes "refuted: " ++ (decimal count ++ codes " entries")))

-- what is said of entries that do not refute the theory: the first that is not legal is counted from 1
abbrev pub SaysCheckFault : CheckFault → Ending → Type 0
SaysCheckFault (Illegal number) ending = ending ≡ illegal_entry (number + 1)
SaysCheckFault NotRefuted ending = ending ≡ not_refuted
SaysCheckFault OutOfMemory ending = ⊥

-- what is said of entries, of which the theory is the first
abbrev pub SaysEntries : Statements → List Entry → Ending → Type 0
SaysEntries t entries ending = (Refutes t entries × (ending ≡ refuted (length entries)))
    ⊎ ((fault : CheckFault) × IsCheckFault t entries fault × SaysCheckFault fault ending)

-- what is said of a text that is no log
abbrev pub SaysLogFault : LogFault → Ending → Type 0
SaysLogFault (Text offset) ending = ending ≡ log_fault offset
SaysLogFault (Deep offset) ending = ending ≡ log_fault offset
SaysLogFault Limit ending = ⊥
SaysLogFault Memory ending = ⊥

-- what is said of the text of a log
abbrev pub SaysLog : Statements → List ℕ → Ending → Type 0
SaysLog t text ending = ((fault : LogFault) × reader.Answers MAX_NESTING text (Err fault) × SaysLogFault fault ending)
    ⊎ ((entries : List Entry) × reader.Answers MAX_NESTING text (Ok entries) × SaysEntries t entries ending)

-- The log may have as many bytes as the problem leaves of those that a run reads.
abbrev pub EndsCheck : Files → Option (List ℕ) → List ℕ → List ℕ → Ending → Type 0
EndsCheck files root problem log =
    AfterResolved files root problem (λ whole.
    AfterDenoted whole (λ lines v.
    AfterFile files log (TOTAL_SIZE - whole.read) (SaysLog (given_theory lines v))))

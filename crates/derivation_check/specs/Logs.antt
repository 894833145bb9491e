-- What a log has taken.
use Rattle.std.specs.Prelude.{◌≡◌, ◌⊎◌, ℕ, List}
use Rattle.std.specs.declared.option.Option.{Option}
use Rattle.tptp_base.specs.Sink.{Takes, TakesPrefix}
use Rattle.fof_terms.specs.Vocabulary.{Vocabulary}
use Rattle.kernel.specs.Statements.{Statements}
use Rattle.kernel.specs.Entries.{Admits}
use Rattle.kernel.specs.declared.entry.Entry.{Entry}
use Rattle.proof_log.specs.Entries.{log_text}
use Rattle.derivation_text.specs.declared.derivation.Derivation.{Derivation}
use Rattle.derivation_check.specs.Cases.{Asked}
use Rattle.derivation_check.specs.Checks.{Checks, Stops}
use Rattle.derivation_check.specs.Counts.{Counts}
use Rattle.derivation_check.specs.declared.checking.Report.{Report}

-- nothing was taken, or a prefix of a log whose entries are legal in turn from the theory
abbrev pub TakesSomeOfLog : Statements → Option (List ℕ) → Option (List ℕ) → Type 0
TakesSomeOfLog t old new = (new ≡ old) ⊎ ((entries : List Entry) × (u : Statements) × Admits t entries u × TakesPrefix old new (log_text entries))

-- the report and what the log took are those of a check, and the report counts its answers
abbrev pub ChecksWithLog : Asked → Statements → Derivation → Vocabulary → Report → Option (List ℕ) → Option (List ℕ) → Type 0
ChecksWithLog asked t d w report old new = (log : List ℕ) × Takes old new log × (checks : Checks asked t d w report.verified report.text log) × Counts report checks.answers

-- the check stops at this place, and the log took what it has then
abbrev pub StopsWithLog : Asked → Statements → Derivation → Vocabulary → Option (List ℕ) → Option (List ℕ) → ℕ → Type 0
StopsWithLog asked t d w old new place = (log : List ℕ) × Takes old new log × Stops asked t d w place log

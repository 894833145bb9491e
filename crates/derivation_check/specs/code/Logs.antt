-- What private contracts say, beside the definitions of specs/Logs.
use Rattle.std.specs.Prelude.{◌≡◌, ℕ, List, ◌++◌}
use Rattle.verifier.specs.declared.answer.Verdict.{Verdict}
use Rattle.std.specs.declared.option.Option.{Option}
use Rattle.tptp_base.specs.Sink.{Takes}
use Rattle.fof_terms.specs.Vocabulary.{Vocabulary}
use Rattle.kernel.specs.Statements.{Statements}
use Rattle.kernel.specs.Entries.{Admits}
use Rattle.kernel.specs.declared.entry.Entry.{Entry}
use Rattle.proof_log.specs.Entries.{HaveNumbersInRange, log_text}
use Rattle.derivation_text.specs.declared.derivation.Derivation.{Derivation}
use Rattle.verifier.specs.declared.answer.LineAnswer.{LineAnswer}
use Rattle.verifier.specs.Closing.{Closes}
use Rattle.verifier.specs.Logged.{entries_text}
use Rattle.derivation_check.specs.Endings.{IsVerdict}
use Rattle.derivation_check.specs.Report.{report_text}
use Rattle.derivation_check.specs.Cases.{Asked, claim_by, lines_over, widened}
use Rattle.derivation_check.specs.Checks.{Runs, is_verified}
use Rattle.derivation_check.specs.Counts.{Counts}
use Rattle.verifier.specs.Declarations.{declarations}
use Rattle.verifier.specs.Run.{IsStopped}
use Rattle.derivation_check.specs.declared.checking.Report.{Report}

-- The lines are run, with these numbers of the accepted ones, and the log has taken their entries, whose numbers fit
-- their types.
pub record LogsRuns (limit : ℕ) (t : Statements) (d : Derivation) (w : Vocabulary) (answers : List LineAnswer) (numbers : List (Option ℕ)) (end : Statements) (old new : Option (List ℕ)) : Type 0 where
  pub entries : List Entry
  pub runs : Runs limit t d w answers entries end
  pub numbered : runs.run.numbers ≡ numbers
  pub taken : Takes old new (log_text entries)
  pub in_range : HaveNumbersInRange entries

-- The report on lines with these answers and numbers is made, and the log has taken the last entries.
pub record Closed (asked : Asked) (d : Derivation) (answers : List LineAnswer) (numbers : List (Option ℕ)) (report : Report) (old new : Option (List ℕ)) : Type 0 where
  pub verdict : Verdict
  pub first_that_applies : IsVerdict (claim_by asked answers) asked.problem d.forms answers verdict
  pub last : List Entry
  pub closes : Closes verdict d.forms numbers last
  pub verified : report.verified ≡ is_verified verdict
  pub text : report.text ≡ report_text d.names answers verdict
  pub counts : Counts report answers
  pub taken : Takes old new (entries_text last)
  pub in_range : HaveNumbersInRange last

-- The run stops at this place, and the log has taken the declarations and the entries of the lines before it.
pub record StopsRun (limit : ℕ) (t : Statements) (d : Derivation) (w : Vocabulary) (old new : Option (List ℕ)) (place : ℕ) : Type 0 where
  pub own : List Entry
  pub end : Statements
  pub declared : Admits t (declarations t.vocabulary w) (widened t w)
  pub stopped : IsStopped (widened t w) (lines_over t d limit) d.graph.order place own end
  pub taken : Takes old new (log_text (declarations t.vocabulary w ++ own))
  pub in_range : HaveNumbersInRange (declarations t.vocabulary w ++ own)

-- What a check of a derivation gives: a report, and a log. The log begins with the declarations of the sorts and
-- symbols that the derivation brings; then come the entries of its lines, as they are run in the order of the graph;
-- and at last, where all is verified, a lemma that cites the last line that is falsehood. A check stops at a line for
-- which there is no room; its log then has the declarations and the entries of the lines before it.
use Rattle.std.specs.Prelude.{◌≡◌, ℕ, Bool, true, false, List, ◌++◌}
use Rattle.fof_terms.specs.Vocabulary.{Vocabulary}
use Rattle.kernel.specs.Statements.{Statements}
use Rattle.kernel.specs.Entries.{Admits}
use Rattle.kernel.specs.declared.entry.Entry.{Entry}
use Rattle.proof_log.specs.Entries.{HaveNumbersInRange, log_text}
use Rattle.verifier.specs.declared.answer.Verdict.{Verdict}
use Rattle.verifier.specs.declared.answer.Verdict.TheVariants.{Failed, NoFalse, BadClaim, Verified}
use Rattle.derivation_text.specs.declared.derivation.Derivation.{Derivation}
use Rattle.verifier.specs.Closing.{Closes}
use Rattle.verifier.specs.Declarations.{declarations}
use Rattle.derivation_check.specs.Endings.{IsVerdict}
use Rattle.verifier.specs.Run.{IsRun, IsStopped}
use Rattle.verifier.specs.declared.answer.LineAnswer.{LineAnswer}
use Rattle.derivation_check.specs.Report.{report_text}
use Rattle.derivation_check.specs.Cases.{Asked, claim_by, lines_over, widened}

-- all is verified
abbrev pub is_verified : Verdict → Bool
is_verified (Verified word problem lines) = true
is_verified (Failed unverified skipped lines) = false
is_verified NoFalse = false
is_verified (BadClaim word) = false

-- The lines of the derivation are run from the given formulas, with this limit of a search, these answers and these
-- entries.
pub record Runs (limit : ℕ) (t : Statements) (d : Derivation) (w : Vocabulary) (answers : List LineAnswer) (entries : List Entry) (end : Statements) : Type 0 where
  pub own : List Entry
  pub declared : Admits t (declarations t.vocabulary w) (widened t w)
  pub run : IsRun (widened t w) (lines_over t d limit) d.graph.order answers own end
  pub entries_are : entries ≡ declarations t.vocabulary w ++ own

-- The report on the run, and its log. The numbers in its entries fit their types.
pub record Checks (asked : Asked) (t : Statements) (d : Derivation) (w : Vocabulary) (verified : Bool) (report log : List ℕ) : Type 0 where
  pub answers : List LineAnswer
  pub entries : List Entry
  pub end : Statements
  pub runs : Runs asked.limit t d w answers entries end
  pub verdict : Verdict
  pub first_that_applies : IsVerdict (claim_by asked answers) asked.problem d.forms answers verdict
  pub last : List Entry
  pub closes : Closes verdict d.forms runs.run.numbers last
  pub in_range : HaveNumbersInRange (entries ++ last)
  pub verified_is : verified ≡ is_verified verdict
  pub report_is : report ≡ report_text d.names answers verdict
  pub log_is : log ≡ log_text (entries ++ last)

-- The check stops at the line at this place, in the order of the text, and this is its log.
pub record Stops (asked : Asked) (t : Statements) (d : Derivation) (w : Vocabulary) (place : ℕ) (log : List ℕ) : Type 0 where
  pub own : List Entry
  pub end : Statements
  pub declared : Admits t (declarations t.vocabulary w) (widened t w)
  pub stopped : IsStopped (widened t w) (lines_over t d asked.limit) d.graph.order place own end
  pub in_range : HaveNumbersInRange (declarations t.vocabulary w ++ own)
  pub log_is : log ≡ log_text (declarations t.vocabulary w ++ own)

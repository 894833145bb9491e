-- When a log shows that the axioms of a problem contradict each other, without its conjecture.
use Rattle.std.specs.Prelude.{◌≡◌, ℕ, true, List, Option, Some, Ok, slice_get}
use Rattle.tptp_base.specs.Store.{Files}
use Rattle.fof_terms.specs.Vocabulary.{Vocabulary}
use Rattle.kernel.specs.Entries.{Refutes}
use Rattle.kernel.specs.declared.entry.Entry.{Entry}
use Rattle.proof_log.specs.Entries.{log_text}
use Rattle.include_resolve.specs.declared.problem.Problem.{Problem}
use Rattle.include_resolve.specs.Resolved.{Resolves}
use Rattle.sort_check.specs.declared.line.GivenEntry.{GivenEntry}
use Rattle.sort_check.specs.declared.line.Line.{Line}
use Rattle.sort_check.specs.Given.{given_entries}
use Rattle.sort_check.specs.Texts.{denoted}
use Rattle.verifier.specs.Citing.{DoNotCite}
use Rattle.read_problems.specs.Given.{given_theory}
use Rattle.read_problems.specs.Denoted.{first_vocabulary}
use Rattle.read_problems.specs.Sources.{is_of_conjecture}
use Rattle.sort_check.specs.declared.line.TextKind.TheVariants as kind

-- The log is the text of entries that refute what the problem in the file gives, and no entry cites a given formula of
-- role conjecture or negated_conjecture.
pub record RefutesAxioms (files : Files) (root : Option (List ℕ)) (problem log : List ℕ) : Type 0 where
  pub whole : Problem
  pub lines : List Line
  pub v : Vocabulary
  pub resolves : Resolves (Some files) root problem (Ok whole)
  pub denotes : denoted whole.items first_vocabulary kind.Problem ≡ Ok (lines, v)
  pub entries : List Entry
  pub log_is : log ≡ log_text entries
  pub refutes : Refutes (given_theory lines v) entries
  pub spares : (number : ℕ) (entry : GivenEntry) → slice_get (given_entries lines) number ≡ Some entry → is_of_conjecture entry.role ≡ true → DoNotCite number entries

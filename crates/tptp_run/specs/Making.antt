-- How the command `make` ends: the made derivation is verified against the made problem, in full, and this is said.
use Rattle.std.specs.Prelude.{◌≡◌, ℕ, ◌+◌, ◌*◌, true, List, length, count_by, None, Some, Ok}
use Rattle.fof_terms.specs.Vocabulary.{Vocabulary}
use Rattle.include_resolve.specs.declared.problem.Problem.{Problem}
use Rattle.include_resolve.specs.Resolved.{Resolves}
use Rattle.sort_check.specs.declared.line.Line.{Line}
use Rattle.sort_check.specs.declared.line.TextKind.TheVariants as kind
use Rattle.sort_check.specs.Texts.{denoted}
use Rattle.derivation_check.specs.Checks.{Checks}
use Rattle.derivation_check.specs.Counts.{is_norm, is_resolution}
use Rattle.derivation_text.specs.Derivations.{IsDerivation}
use Rattle.derivation_text.specs.declared.derivation.Derivation.{Derivation}
use Rattle.read_problems.specs.Given.{given_theory}
use Rattle.read_problems.specs.Denoted.{first_vocabulary}
use Rattle.read_problems.specs.Ending.{Ending}
use Rattle.tptp_commands.specs.Made.{files, problem_name, derivation, summary}
use Rattle.read_problems.specs.Sources.{given_names, conjecture_marks, has_conjecture}
use Rattle.tptp_run.specs.Verifying.{asked_by}

-- The made problem resolves and denotes, the made text is a derivation from what it gives, and a check with this limit
-- of a search verifies it: that check's log is the log. So many lines were checked, so many of them were accepted by
-- norm and so many by resolution, and this is said.
pub record EndsMake (count limit : ℕ) (ending : Ending) : Type 0 where
  pub whole : Problem
  pub resolves : Resolves (Some (files count)) None problem_name (Ok whole)
  pub lines : List Line
  pub v : Vocabulary
  pub denotes : denoted whole.items first_vocabulary kind.Problem ≡ Ok (lines, v)
  pub d : Derivation
  pub w : Vocabulary
  pub is : IsDerivation (derivation count) (given_names lines) v d w
  pub report : List ℕ
  pub checks : Checks (asked_by problem_name (derivation count) (conjecture_marks lines) (has_conjecture lines) limit) (given_theory lines v) d w true report ending.log
  pub line_count : length checks.answers ≡ 2 * count + 3
  pub norms : count_by is_norm checks.answers ≡ count + 2
  pub resolutions : count_by is_resolution checks.answers ≡ count + 1
  pub status : ending.status ≡ 0
  pub out : ending.out ≡ summary count

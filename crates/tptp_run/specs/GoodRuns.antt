-- When a problem and a derivation are good, by their texts alone: the problem resolves and denotes, the derivation is
-- spelled, has a graph and denotes, each line follows by a rule, some line is falsehood, the claim is justified, and
-- beside the symbols of both there is room for each line. Nothing of this depends on the limit of a search, which is
-- named since it is part of what is asked.
use Rattle.std.specs.Prelude.{◌≡◌, ℕ, List, length, Some, Ok}
use Rattle.std.specs.declared.option.Option.{Option}
use Rattle.tptp_base.specs.Store.{Files, file_at}
use Rattle.fof_terms.specs.Vocabulary.{Vocabulary}
use Rattle.include_resolve.specs.declared.problem.Problem.{Problem}
use Rattle.include_resolve.specs.Resolved.{Resolves}
use Rattle.sort_check.specs.declared.line.Line.{Line}
use Rattle.sort_check.specs.declared.line.TextKind.TheVariants as kind
use Rattle.sort_check.specs.Texts.{denoted}
use Rattle.derivation_check.specs.GoodCases.{IsGoodCase}
use Rattle.derivation_text.specs.Derivations.{IsDerivation}
use Rattle.derivation_text.specs.declared.derivation.Derivation.{Derivation}
use Rattle.read_problems.specs.Given.{given_theory}
use Rattle.read_problems.specs.Denoted.{first_vocabulary}
use Rattle.tptp_commands.specs.Refuted.{IsInBudget}
use Rattle.read_problems.specs.Sources.{given_names, conjecture_marks, has_conjecture}
use Rattle.tptp_run.specs.Verifying.{asked_by}

-- The text is a derivation from what these lines of a problem give, and a good one.
pub record IsGoodText (problem : List ℕ) (limit : ℕ) (lines : List Line) (v : Vocabulary) (text : List ℕ) : Type 0 where
  pub d : Derivation
  pub w : Vocabulary
  pub is : IsDerivation text (given_names lines) v d w
  pub good : IsGoodCase (asked_by problem text (conjecture_marks lines) (has_conjecture lines) limit) (given_theory lines v) d w

-- The files have this problem, which resolves and denotes, and a good derivation from it, within the limits.
pub record AreGood (files : Files) (root : Option (List ℕ)) (limit : ℕ) (problem file : List ℕ) : Type 0 where
  pub whole : Problem
  pub resolves : Resolves (Some files) root problem (Ok whole)
  pub lines : List Line
  pub v : Vocabulary
  pub denotes : denoted whole.items first_vocabulary kind.Problem ≡ Ok (lines, v)
  pub text : List ℕ
  pub there : file_at files file ≡ Some text
  pub fits : IsInBudget whole.read (length text)
  pub good : IsGoodText problem limit lines v text

-- How the command `verify` ends: the first fault of the problem is said, or that of the derivation's file or its text,
-- or its lines are run, and the report on them is made, or a line is named for which there is no room.
use Rattle.std.specs.Prelude.{◌≡◌, ◌⊎◌, ℕ, ◌-◌, Bool, true, false, List, Some, slice_get}
use Rattle.std.specs.declared.option.Option.{Option}
use Rattle.tptp_base.specs.declared.limit.LimitName.TheVariants.{Symbols}
use Rattle.tptp_base.specs.declared.name.Name.{Name}
use Rattle.tptp_base.specs.declared.place.Place.{Place}
use Rattle.tptp_base.specs.Store.{Files}
use Rattle.fof_terms.specs.Vocabulary.{Vocabulary}
use Rattle.kernel.specs.Statements.{Statements}
use Rattle.derivation_check.specs.Cases.{Asked}
use Rattle.derivation_check.specs.Checks.{Checks, Stops}
use Rattle.derivation_text.specs.declared.derivation.Derivation.{Derivation}
use Rattle.read_problems.specs.Given.{given_theory}
use Rattle.sort_check.specs.declared.fault.SortRule.TheVariants.{Limit}
use Rattle.read_problems.specs.Denoted.{AfterResolved, AfterDenoted, in_line, rule_text}
use Rattle.tptp_commands.specs.Derived.{AfterDerivation}
use Rattle.read_problems.specs.Ending.{Ending, AfterFile}
use Rattle.read_problems.specs.Sources.{given_names, conjecture_marks, has_conjecture}
use Rattle.read_problems.specs.Spelled.{said_at}
use Rattle.read_problems.specs.declared.refusals.TheConstants.{TOTAL_SIZE}

-- the status of a check
abbrev pub status_of : Bool → ℕ
status_of true = 0
status_of false = 1

-- The derivation is checked: the report is printed, and the status is 0 where all is verified, and else 1.
pub record EndsChecked (asked : Asked) (t : Statements) (d : Derivation) (w : Vocabulary) (ending : Ending) : Type 0 where
  pub verified : Bool
  pub status : ending.status ≡ status_of verified
  pub checks : Checks asked t d w verified ending.out ending.log

-- There is no room for the line at this place of the derivation in the file: the symbols that a search for it could bring
-- in would be too many. This is said, and the log has what was written of the lines before it.
pub record SaysRoom (asked : Asked) (file : List ℕ) (t : Statements) (d : Derivation) (w : Vocabulary) (ending : Ending) : Type 0 where
  pub number : ℕ
  pub name : Name
  pub named : slice_get d.names number ≡ Some name
  pub place : Place
  pub placed : slice_get d.places number ≡ Some place
  pub status : ending.status ≡ 7
  pub out : ending.out ≡ said_at file place (in_line name (rule_text (Limit Symbols)))
  pub stops : Stops asked t d w number ending.log

-- The derivation in the file is checked to its end, or to a line for which there is no room.
abbrev pub EndsRun : Asked → List ℕ → Statements → Derivation → Vocabulary → Ending → Type 0
EndsRun asked file t d w ending = EndsChecked asked t d w ending ⊎ SaysRoom asked file t d w ending

-- what is asked of a derivation from given formulas
abbrev pub asked_by : List ℕ → List ℕ → List Bool → Bool → ℕ → Asked
asked_by problem text marks conjecture limit = record { problem = problem; output = text; marks = marks; has_conjecture = conjecture; limit = limit }

-- what is said of the text of a derivation, from given formulas of this theory, with these names and marks, where a
-- search keeps so many clauses at most
abbrev pub SaysDerivation : List ℕ → List ℕ → ℕ → Statements → List Name → List Bool → Bool → List ℕ → Ending → Type 0
SaysDerivation problem derivation limit t names marks conjecture text =
    AfterDerivation derivation text names t.vocabulary (λ d w. EndsRun (asked_by problem text marks conjecture limit) derivation t d w)

-- The derivation may have as many bytes as the problem leaves of those that a run reads.
abbrev pub EndsVerify : Files → Option (List ℕ) → ℕ → List ℕ → List ℕ → Ending → Type 0
EndsVerify files root limit problem derivation =
    AfterResolved files root problem (λ whole.
    AfterDenoted whole (λ lines v.
    AfterFile files derivation (TOTAL_SIZE - whole.read)
    (SaysDerivation problem derivation limit (given_theory lines v) (given_names lines) (conjecture_marks lines) (has_conjecture lines))))

-- Both are endings of runs of one derivation over one theory.
pub record AreOfRuns (file : List ℕ) (one other : Ending) : Type 0 where
  pub asked : Asked
  pub theory : Statements
  pub derivation : Derivation
  pub vocabulary : Vocabulary
  pub first : EndsRun asked file theory derivation vocabulary one
  pub second : EndsRun asked file theory derivation vocabulary other

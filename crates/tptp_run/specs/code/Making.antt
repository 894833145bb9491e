-- What private contracts say, beside the definitions of specs/Making.
use Rattle.std.specs.Prelude.{◌≡◌, ℕ, ◌+◌, ◌*◌, true, Bool, List}
use Rattle.std.specs.declared.option.Option.{Option}
use Rattle.tptp_base.specs.declared.name.Name.{Name}
use Rattle.fof_terms.specs.Vocabulary.{Vocabulary}
use Rattle.kernel.specs.Statements.{Statements}
use Rattle.derivation_check.specs.Logs.{ChecksWithLog}
use Rattle.derivation_check.specs.declared.checking.Report.{Report}
use Rattle.derivation_text.specs.Derivations.{IsDerivation}
use Rattle.derivation_text.specs.declared.derivation.Derivation.{Derivation}
use Rattle.tptp_run.specs.Verifying.{asked_by}

-- the text is a derivation from what the problem gives, formulas of this theory, with these names and marks, and the
-- report is that of a check of it
abbrev pub IsReportOn : List ℕ → List ℕ → ℕ → Statements → List Name → Vocabulary → List Bool → Bool → Report → Option (List ℕ) → Option (List ℕ) → Type 0
IsReportOn problem text limit t names v marks conjecture report old new =
    (d : Derivation) × (w : Vocabulary) × IsDerivation text names v d w × ChecksWithLog (asked_by problem text marks conjecture limit) t d w report old new

-- The report says that all lines are verified, and how.
pub record IsWhole (report : Report) (count : ℕ) : Type 0 where
  pub verified : report.verified ≡ true
  pub lines : report.lines ≡ 2 * count + 3
  pub norms : report.norms ≡ count + 2
  pub resolutions : report.resolutions ≡ count + 1

-- What private contracts say of a proof that is printed, and of its check.
use Rattle.std.specs.Prelude.{ℕ, ◌≡◌, ⊤, Bool, List}
use Rattle.tptp_base.specs.declared.item.Item.{Item}
use Rattle.tptp_base.specs.declared.name.Name.{Name}
use Rattle.fof_terms.specs.Vocabulary.{Vocabulary}
use Rattle.kernel.specs.Statements.{Statements}
use Rattle.sort_check.specs.declared.line.GivenEntry.{GivenEntry}
use Rattle.derivation_check.specs.Claim.{default_word}
use Rattle.derivation_check.specs.Checks.{Stops}
use Rattle.derivation_text.specs.Derivations.{IsDerivation, IsDerivationFault}
use Rattle.derivation_text.specs.Wants.{IsWant}
use Rattle.derivation_text.specs.declared.derivation.Derivation.{Derivation}
use Rattle.derivation_text.specs.declared.fault.DerivationFault.{DerivationFault}
use Rattle.read_problems.specs.Sources.{entry_marks, entry_names, entry_theory}
use Rattle.read_problems.specs.declared.sources.Source.{Source}
use Rattle.tptp_commands.specs.Presented.{proof_text}
use Rattle.proofs_are_verified.specs.code.Texts.{IsProofText}
use Rattle.tptp_run.specs.Verifying.{asked_by}
use Rattle.tptp_run.specs.declared.report.NoReport.{NoReport}
use Rattle.tptp_run.specs.declared.report.NoReport.TheVariants.{Text, Room, Sink, Memory}

-- the text that presents the items of a proof from the problem in the file
abbrev pub text_of : List ℕ → Bool → List Item → List ℕ
text_of file conjecture items = proof_text file (default_word conjecture) items

-- the text is that of a proof from what the source gives
pub record IsProofFrom (file : List ℕ) (limit : ℕ) (source : Source) (text : List ℕ) : Type 0 where
  pub given : List GivenEntry
  pub proof : IsProofText source.signature given limit file source.has_conjecture text
  pub theory : source.theory ≡ entry_theory source.signature given
  pub names : source.names ≡ entry_names given
  pub marks : source.marks ≡ entry_marks given

-- Why there is no report on the text: a fault in it that is not want of memory, or a line for which there is no room, at
-- which the check stops. A fault of the log has its cause.
abbrev pub HasNoReport : List ℕ → List ℕ → ℕ → Statements → List Name → Vocabulary → List Bool → Bool → Type 0 → NoReport → Type 0
HasNoReport problem text limit t names v marks conjecture failed Text = (fault : DerivationFault) × IsDerivationFault text names v fault × (IsWant fault → ⊥)
HasNoReport problem text limit t names v marks conjecture failed Room =
    (d : Derivation) × (w : Vocabulary) × IsDerivation text names v d w × ((place : ℕ) × (log : List ℕ) × Stops (asked_by problem text marks conjecture limit) t d w place log)
HasNoReport problem text limit t names v marks conjecture failed Sink = failed
HasNoReport problem text limit t names v marks conjecture failed Memory = ⊤

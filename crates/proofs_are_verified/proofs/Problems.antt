-- A check of the text of a proof of a problem verifies all.
use Rattle.std.specs.Prelude.{ℕ, ◌≡◌, ◌≤◌, Bool, true, List, Option, length, refl}
use Rattle.std.proofs.Common.{ap, arith}
use Rattle.tptp_base.specs.Store.{Files}
use Rattle.tptp_base.specs.declared.read.TheConstants.{FILE_SIZE}
use Rattle.fof_terms.specs.Vocabulary.{Vocabulary}
use Rattle.kernel.specs.Statements.{Statements}
use Rattle.sort_check.specs.Given.{given_entries}
use Rattle.sort_check.specs.declared.line.GivenEntry.{GivenEntry}
use Rattle.sort_check.specs.declared.line.Line.{Line}
use Rattle.derivation_check.specs.Cases.{Asked}
use Rattle.derivation_check.specs.Checks.{Checks, Stops}
use Rattle.derivation_text.specs.Derivations.{IsDerivation, IsDerivationFault}
use Rattle.derivation_text.specs.Wants.{IsWant}
use Rattle.derivation_text.specs.declared.derivation.Derivation.{Derivation as Checked}
use Rattle.derivation_text.specs.declared.fault.DerivationFault.{DerivationFault}
use Rattle.refutation_lines.specs.declared.derivation.Derivation.{Derivation}
use Rattle.read_problems.specs.Given.{given_theory}
use Rattle.read_problems.specs.Sources.{given_names, has_conjecture}
use Rattle.read_problems.proofs.MarksFit.{marks_fit}
use Rattle.derivation_order.specs.Graphs.{names_of}
use Rattle.proofs_are_verified.specs.Printed.{Asks, IsPrintedProof}
use Rattle.proofs_are_verified.specs.Proofs.{IsAskedOf, IsProofOf}
use Rattle.proofs_are_verified.specs.code.Texts.{IsProofText}
use Rattle.proofs_are_verified.proofs.Posed.{problem_posed}
use Rattle.proofs_are_verified.proofs.Read.{derivation_read, no_fault}
use Rattle.proofs_are_verified.proofs.Verified.{all_verified, not_stopped}

-- ---- a proof that is found

module _ (v : Vocabulary) (given : List GivenEntry) (limit : ℕ) (file : List ℕ) (conjecture : Bool) (text : List ℕ) (is : IsProofText v given limit file conjecture text) (short : length text ≤ FILE_SIZE) where
  -- the derivation that is found
  abbrev pub found : Derivation
  found = is.proved.0

  pub printed : IsPrintedProof v given limit file conjecture found text
  printed = record {
    posed = is.posed;
    small = is.small;
    found = is.proved.1;
    premises = is.proved.2.0;
    items = is.items;
    within = is.proved.2.1;
    named = is.named;
    is = is.is;
    short = short;
  }

  pub text_read : (checked : Checked) × (w : Vocabulary) × IsDerivation text (names_of given) v checked w
  text_read = (let (checked, read) = derivation_read v given limit file conjecture found text printed in (checked, _, read))

  pub text_no_fault : (fault : DerivationFault) → IsDerivationFault text (names_of given) v fault → IsWant fault
  text_no_fault fault first = no_fault v given limit file conjecture found text printed fault first

  module _ (asked : Asked) (t : Statements) (asks : Asks given conjecture text asked t) (checked : Checked) (w : Vocabulary) (read : IsDerivation text (names_of given) v checked w) where
    pub text_verified : (verified : Bool) (report log : List ℕ) → Checks asked t checked w verified report log → verified ≡ true
    text_verified verified report log checks = all_verified v given limit file conjecture found text printed asked t asks checked w read verified report log checks

    pub text_not_stopped : (place : ℕ) (log : List ℕ) → Stops asked t checked w place log → ⊥
    text_not_stopped place log stops = not_stopped v given limit file conjecture found text printed asked t asks checked w read place log stops

-- ---- a proof of a problem

module _ (told : Option Files) (root : Option (List ℕ)) (file : List ℕ) (limit : ℕ) (lines : List Line) (v : Vocabulary) (text : List ℕ) (is : IsProofOf told root file limit lines v text) where
  of_problem : IsProofText v (given_entries lines) limit file (has_conjecture lines) text
  of_problem = record {
    posed = problem_posed told root file is.whole lines v is.resolves is.denotes is.sorted is.few;
    small = is.small;
    named = is.named;
    items = is.items;
    proved = is.proved;
    is = is.is;
  }

  pub problem_read : (checked : Checked) × (w : Vocabulary) × IsDerivation text (given_names lines) v checked w
  problem_read = text_read v (given_entries lines) limit file (has_conjecture lines) text of_problem is.short

  pub problem_no_fault : (fault : DerivationFault) → IsDerivationFault text (given_names lines) v fault → IsWant fault
  problem_no_fault fault first = text_no_fault v (given_entries lines) limit file (has_conjecture lines) text of_problem is.short fault first

  module _ (asked : Asked) (of : IsAskedOf lines text asked) where
    asks : Asks (given_entries lines) (has_conjecture lines) text asked (given_theory lines v)
    asks = record { output = of.output; claim = of.conjecture; formulas = refl; marks = (let fit = marks_fit lines v in omega (arith, fit, ap length of.marks)) }

    module _ (checked : Checked) (w : Vocabulary) (read : IsDerivation text (given_names lines) v checked w) where
      pub problem_verified : (verified : Bool) (report log : List ℕ) → Checks asked (given_theory lines v) checked w verified report log → verified ≡ true
      problem_verified verified report log checks =
          text_verified v (given_entries lines) limit file (has_conjecture lines) text of_problem is.short asked (given_theory lines v) asks checked w read verified report log checks

      pub problem_not_stopped : (place : ℕ) (log : List ℕ) → Stops asked (given_theory lines v) checked w place log → ⊥
      problem_not_stopped place log stops =
          text_not_stopped v (given_entries lines) limit file (has_conjecture lines) text of_problem is.short asked (given_theory lines v) asks checked w read place log stops

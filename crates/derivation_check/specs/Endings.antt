-- How a derivation ends, by the answers to its lines and by what it claims.
use Rattle.std.specs.Prelude.{◌≡◌, ℕ, ◌+◌, ◌<◌, List, length, Some}
use Rattle.fof_terms.specs.declared.form.Form.{Form}
use Rattle.verifier.specs.Report.{AreAccepted, HasFalse, skipped_of, unverified_of}
use Rattle.verifier.specs.declared.answer.LineAnswer.{LineAnswer}
use Rattle.verifier.specs.declared.answer.Verdict.{Verdict}
use Rattle.verifier.specs.declared.answer.Verdict.TheVariants.{Failed, NoFalse, BadClaim, Verified}
use Rattle.derivation_check.specs.Claim.{IsJustified, status_word}
use Rattle.derivation_check.specs.declared.claiming.Claim.{Claim}

-- The first of these that applies to the answers and the formulas of the lines, to the claim and to the name of the
-- problem: some line is not accepted; no line is falsehood; the claim is not justified; all is verified.
abbrev pub IsVerdict : Claim → List ℕ → List Form → List LineAnswer → Verdict → Type 0
IsVerdict claim problem forms answers (Failed unverified skipped lines) =
    (0 < unverified_of answers + skipped_of answers) × (unverified ≡ unverified_of answers) × (skipped ≡ skipped_of answers) × (lines ≡ length answers)
IsVerdict claim problem forms answers NoFalse = AreAccepted answers × (HasFalse forms → ⊥)
IsVerdict claim problem forms answers (BadClaim word) = AreAccepted answers × HasFalse forms × (IsJustified claim → ⊥) × (claim.word ≡ Some word)
IsVerdict claim problem forms answers (Verified word name lines) =
    AreAccepted answers × HasFalse forms × IsJustified claim × (word ≡ status_word claim) × (name ≡ problem) × (lines ≡ length answers)

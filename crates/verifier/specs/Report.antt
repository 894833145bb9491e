-- What is said of the lines of a derivation, and how many of them are not accepted.
use Rattle.std.specs.Prelude.{◌≡◌, ℕ, ◌+◌, Bool, true, false, List, [], count_by, slice_get, Some}
use Rattle.fof_terms.specs.declared.form.Form.{Form, Or}
use Rattle.verifier.specs.declared.answer.LineAnswer.{LineAnswer}
use Rattle.verifier.specs.declared.answer.LineAnswer.TheVariants.{Accepted, Unverified, Skipped}

-- what is said of a line: its answer, but for what the line cites
abbrev pub said_of : LineAnswer → LineAnswer
said_of (Accepted rule cites) = Accepted rule []
said_of (Unverified reason) = Unverified reason
said_of Skipped = Skipped

-- some formula is falsehood
abbrev pub HasFalse : List Form → Type 0
HasFalse forms = (place : ℕ) × (slice_get forms place ≡ Some (Or []))

abbrev pub is_unverified : LineAnswer → Bool
is_unverified (Accepted rule cites) = false
is_unverified (Unverified reason) = true
is_unverified Skipped = false

abbrev pub is_skipped : LineAnswer → Bool
is_skipped (Accepted rule cites) = false
is_skipped (Unverified reason) = false
is_skipped Skipped = true

-- how many lines are unverified, and how many are skipped
abbrev pub unverified_of : List LineAnswer → ℕ
unverified_of answers = count_by is_unverified answers

abbrev pub skipped_of : List LineAnswer → ℕ
skipped_of answers = count_by is_skipped answers

abbrev pub AreAccepted : List LineAnswer → Type 0
AreAccepted answers = unverified_of answers + skipped_of answers ≡ 0

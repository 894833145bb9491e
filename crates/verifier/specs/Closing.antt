-- The last entry of a log: where all is verified, a lemma that cites the last line that is falsehood.
use Rattle.std.specs.Prelude.{◌≡◌, ⊤, ℕ, ◌≤◌, List, [], ◌∷◌, Some, slice_get}
use Rattle.std.specs.declared.option.Option.{Option}
use Rattle.tptp_base.specs.Sink.{Takes}
use Rattle.fof_terms.specs.declared.form.Form.{Form, Or}
use Rattle.kernel.specs.declared.proof.Proof.{Line as Cited}
use Rattle.kernel.specs.declared.entry.Entry.{Entry}
use Rattle.kernel.specs.declared.entry.Entry.TheVariants.{Lemma}
use Rattle.proof_log.specs.Entries.{HaveNumbersInRange}
use Rattle.verifier.specs.declared.answer.Verdict.{Verdict}
use Rattle.verifier.specs.declared.answer.Verdict.TheVariants.{Failed, NoFalse, BadClaim, Verified}
use Rattle.verifier.specs.Logged.{entries_text}

-- all is verified
abbrev pub IsVerified : Verdict → Type 0
IsVerified (Verified word problem lines) = ⊤
IsVerified (Failed unverified skipped lines) = ⊥
IsVerified NoFalse = ⊥
IsVerified (BadClaim word) = ⊥

-- An accepted line that is falsehood has this number in the theory, by the formulas of the lines and their numbers,
-- each at the line's place in the text.
pub record IsFalseLine (forms : List Form) (numbers : List (Option ℕ)) (number : ℕ) : Type 0 where
  pub place : ℕ
  pub is_false : slice_get forms place ≡ Some (Or [])
  pub numbered : slice_get numbers place ≡ Some (Some number)

-- Of these lines the last in the order of checking has this number: a line that is checked later has a greater one.
pub record IsLastFalse (forms : List Form) (numbers : List (Option ℕ)) (number : ℕ) : Type 0 where
  pub is : IsFalseLine forms numbers number
  pub last : (other : ℕ) → IsFalseLine forms numbers other → other ≤ number

-- there is such a line
abbrev pub HasFalseLine : List Form → List (Option ℕ) → Type 0
HasFalseLine forms numbers = (number : ℕ) × IsFalseLine forms numbers number

-- behind lines with these formulas and numbers, the last entries for a verdict
abbrev pub Closes : Verdict → List Form → List (Option ℕ) → List Entry → Type 0
Closes (Verified word problem lines) forms numbers entries = (number : ℕ) × IsLastFalse forms numbers number × (entries ≡ Lemma (Cited number) ∷ [])
Closes (Failed unverified skipped lines) forms numbers entries = entries ≡ []
Closes NoFalse forms numbers entries = entries ≡ []
Closes (BadClaim word) forms numbers entries = entries ≡ []

-- the log takes the last entries for a verdict, whose numbers fit their types
abbrev pub ClosesLog : Verdict → List Form → List (Option ℕ) → Option (List ℕ) → Option (List ℕ) → Type 0
ClosesLog verdict forms numbers old new = (entries : List Entry) × Closes verdict forms numbers entries × Takes old new (entries_text entries) × HaveNumbersInRange entries

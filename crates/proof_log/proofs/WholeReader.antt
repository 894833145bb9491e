-- What the reader computes of entries to the end of a text, and of a whole log.
use Rattle.std.specs.Prelude.{◌≡◌, ℕ, zero, suc, List, [], ◌∷◌, length, Result, Ok, Err}
use Rattle.first_fault.specs.code.Reading.{Cause, Unexpected, TooDeep, Outcome}
use Rattle.kernel.specs.declared.entry.Entry.{Entry}
use Rattle.proof_log.specs.declared.name.LogVersion.{LogVersion}
use Rattle.proof_log.specs.declared.name.LogVersion.TheVariants as version
use Rattle.proof_log.specs.declared.stop.Stop.{Stop}
use Rattle.proof_log.specs.declared.stop.Stop.TheVariants as stop
use Rattle.proof_log.specs.code.Names.{version_line}
use Rattle.proof_log.specs.code.ReadWords.{name}
use Rattle.proof_log.specs.code.ReadEntries.{entry}

abbrev pub versions : List LogVersion
versions = version.One ∷ []

-- the entries, or why there are none, with the text from there on
abbrev pub LogOutcome : Type 0
LogOutcome = Result (List Entry) (Cause × List ℕ)

abbrev pub with_entry : Entry → LogOutcome → LogOutcome
with_entry e (Ok es) = Ok (e ∷ es)
with_entry e (Err f) = Err f

abbrev pub followed : Outcome ℕ Entry → (List ℕ → LogOutcome) → LogOutcome
followed (Ok r) again = with_entry r.0 (again r.1)
followed (Err f) again = Err f

-- entries to the end of the text; the first number is as great as the text is long
abbrev pub entries_from : ℕ → ℕ → List ℕ → LogOutcome
entries_from n room [] = Ok []
entries_from zero room (b ∷ ts) = Ok []
entries_from (suc n) room (b ∷ ts) = followed (entry room (b ∷ ts)) (λ rest. entries_from n room rest)

unfoldable pub entries : ℕ → List ℕ → LogOutcome
entries room ts = entries_from (length ts) room ts

abbrev pub behind_version : ℕ → Outcome ℕ LogVersion → LogOutcome
behind_version room (Ok r) = entries room r.1
behind_version room (Err f) = Err f

unfoldable pub log : ℕ → List ℕ → LogOutcome
log room ts = behind_version room (name version_line versions ts)

-- the outcome, unless memory runs out
abbrev pub FailsEntries : LogOutcome → Stop → List ℕ → Type 0
FailsEntries outcome stop.Memory new = Unit {0}
FailsEntries outcome stop.Unexpected new = outcome ≡ Err (Unexpected, new)
FailsEntries outcome stop.TooDeep new = outcome ≡ Err (TooDeep, new)

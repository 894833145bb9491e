-- What the functions that read a character ensure: how the rest of the name follows.
use Rattle.std.specs.Prelude.{◌≡◌, ◌<◌, ℕ, true, false, List, [], ◌∷◌, length, Option, Some, None, Result, Ok, Err}
use Rattle.first_fault.specs.code.Reading.{mapped}
use Rattle.proof_log.specs.declared.stop.Stop.{Stop}
use Rattle.proof_log.specs.code.Outcomes.{Fails}
use Rattle.proof_log.specs.code.ReadEntries.{characters}

-- the character behind a backslash
abbrev pub ReadsEscaped : List ℕ → Result ℕ Stop → List ℕ → Type 0
ReadsEscaped old (Ok byte) new = (characters true old ≡ mapped (λ n. byte ∷ n) (characters false new)) × (length new < length old)
ReadsEscaped old (Err stop) new = Fails (characters true old) stop new

-- the next character, or none at the closing quote
abbrev pub ReadsCharacter : List ℕ → Result (Option ℕ) Stop → List ℕ → Type 0
ReadsCharacter old (Ok (Some byte)) new = (characters false old ≡ mapped (λ n. byte ∷ n) (characters false new)) × (length new < length old)
ReadsCharacter old (Ok None) new = characters false old ≡ Ok ([], new)
ReadsCharacter old (Err stop) new = Fails (characters false old) stop new

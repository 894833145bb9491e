use Rattle.std.proofs.Common.{◌≡◌, ◌++◌, false, length}
use Rattle.first_fault.specs.code.Reading.{mapped}
use Rattle.proof_log.specs.code.ReadEntries as spec
use Rattle.proof_log.proofs.quoted.characters.Given as goal

abbrev pub invariant-characters : goal.invariant-characters
invariant-characters l = spec.characters false l.initial.text ≡ mapped (λ n. l.name ++ n) (spec.characters false l.text)

abbrev pub decreases-characters : goal.decreases-characters
decreases-characters l = length l.text

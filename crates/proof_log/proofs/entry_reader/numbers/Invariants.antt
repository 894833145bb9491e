use Rattle.std.proofs.Common.{◌≡◌, ◌-◌, ◌++◌}
use Rattle.first_fault.specs.code.Reading.{mapped}
use Rattle.proof_log.specs.code.ReadWords.{number, times}
use Rattle.proof_log.proofs.entry_reader.numbers.Given as goal

abbrev pub invariant-loop : goal.invariant-loop
invariant-loop l = times l.count (number 4294967295) l.initial.text ≡ mapped (λ xs. l.found ++ xs) (times (l.count - l.counter) (number 4294967295) l.text)

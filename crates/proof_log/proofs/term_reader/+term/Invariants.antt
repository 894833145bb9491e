use Rattle.std.proofs.Common.{◌≡◌, ◌+◌, ◌-◌, ◌*◌, ◌++◌}
use Rattle.first_fault.specs.code.Reading.{mapped}
use Rattle.proof_log.specs.code.ReadWords.{times}
use Rattle.proof_log.specs.code.ReadTrees as spec
use Rattle.proof_log.proofs.term_reader.+term.Given as goal

abbrev pub decreases-term : goal.decreases-term
decreases-term l = 5 * l.room

abbrev pub decreases-terms : goal.decreases-terms
decreases-terms l = 5 * l.room + 1

abbrev pub decreases-application : goal.decreases-application
decreases-application l = 5 * l.room + 2

abbrev pub decreases-term_within : goal.decreases-term_within
decreases-term_within l = 5 * l.room + 4

abbrev pub invariant-terms-loop : goal.invariant-terms-loop
invariant-terms-loop l = times l.count (spec.term l.room) l.initial.text ≡ mapped (λ xs. l.found ++ xs) (times (l.count - l.counter) (spec.term l.room) l.text)

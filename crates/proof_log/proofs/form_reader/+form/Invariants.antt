use Rattle.std.proofs.Common.{◌≡◌, ◌+◌, ◌-◌, ◌*◌, ◌++◌}
use Rattle.first_fault.specs.code.Reading.{mapped}
use Rattle.proof_log.specs.code.ReadWords.{times}
use Rattle.proof_log.specs.code.ReadTrees as spec
use Rattle.proof_log.proofs.form_reader.+form.Given as goal

abbrev pub decreases-form : goal.decreases-form
decreases-form l = 5 * l.room

abbrev pub decreases-forms : goal.decreases-forms
decreases-forms l = 5 * l.room + 1

abbrev pub decreases-negation : goal.decreases-negation
decreases-negation l = 5 * l.room + 2

abbrev pub decreases-conjunction : goal.decreases-conjunction
decreases-conjunction l = 5 * l.room + 2

abbrev pub decreases-disjunction : goal.decreases-disjunction
decreases-disjunction l = 5 * l.room + 2

abbrev pub decreases-implication : goal.decreases-implication
decreases-implication l = 5 * l.room + 2

abbrev pub decreases-equivalence : goal.decreases-equivalence
decreases-equivalence l = 5 * l.room + 2

abbrev pub decreases-for_all : goal.decreases-for_all
decreases-for_all l = 5 * l.room + 2

abbrev pub decreases-exists : goal.decreases-exists
decreases-exists l = 5 * l.room + 2

abbrev pub decreases-form_of : goal.decreases-form_of
decreases-form_of l = 5 * l.room + 3

abbrev pub decreases-form_within : goal.decreases-form_within
decreases-form_within l = 5 * l.room + 4

abbrev pub invariant-forms-loop : goal.invariant-forms-loop
invariant-forms-loop l = times l.count (spec.form l.room) l.initial.text ≡ mapped (λ xs. l.found ++ xs) (times (l.count - l.counter) (spec.form l.room) l.text)

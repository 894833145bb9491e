use Rattle.std.proofs.Common.{◌≡◌, ◌+◌, ◌-◌, ◌*◌, ◌++◌}
use Rattle.first_fault.specs.code.Reading.{mapped}
use Rattle.proof_log.specs.code.ReadWords.{times}
use Rattle.proof_log.specs.code.ReadTrees as spec
use Rattle.proof_log.proofs.proof_reader.+proof.Given as goal

abbrev pub decreases-proof : goal.decreases-proof
decreases-proof l = 5 * l.room

abbrev pub decreases-proofs : goal.decreases-proofs
decreases-proofs l = 5 * l.room + 1

abbrev pub decreases-and_intro : goal.decreases-and_intro
decreases-and_intro l = 5 * l.room + 2

abbrev pub decreases-and_elim : goal.decreases-and_elim
decreases-and_elim l = 5 * l.room + 2

abbrev pub decreases-or_intro : goal.decreases-or_intro
decreases-or_intro l = 5 * l.room + 2

abbrev pub decreases-or_elim : goal.decreases-or_elim
decreases-or_elim l = 5 * l.room + 2

abbrev pub decreases-implies_intro : goal.decreases-implies_intro
decreases-implies_intro l = 5 * l.room + 2

abbrev pub decreases-implies_elim : goal.decreases-implies_elim
decreases-implies_elim l = 5 * l.room + 2

abbrev pub decreases-not_intro : goal.decreases-not_intro
decreases-not_intro l = 5 * l.room + 2

abbrev pub decreases-not_elim : goal.decreases-not_elim
decreases-not_elim l = 5 * l.room + 2

abbrev pub decreases-by_contradiction : goal.decreases-by_contradiction
decreases-by_contradiction l = 5 * l.room + 2

abbrev pub decreases-iff_intro : goal.decreases-iff_intro
decreases-iff_intro l = 5 * l.room + 2

abbrev pub decreases-iff_left : goal.decreases-iff_left
decreases-iff_left l = 5 * l.room + 2

abbrev pub decreases-iff_right : goal.decreases-iff_right
decreases-iff_right l = 5 * l.room + 2

abbrev pub decreases-all_intro : goal.decreases-all_intro
decreases-all_intro l = 5 * l.room + 2

abbrev pub decreases-all_elim : goal.decreases-all_elim
decreases-all_elim l = 5 * l.room + 2

abbrev pub decreases-exists_intro : goal.decreases-exists_intro
decreases-exists_intro l = 5 * l.room + 2

abbrev pub decreases-exists_elim : goal.decreases-exists_elim
decreases-exists_elim l = 5 * l.room + 2

abbrev pub decreases-substitution : goal.decreases-substitution
decreases-substitution l = 5 * l.room + 2

abbrev pub decreases-inhabited : goal.decreases-inhabited
decreases-inhabited l = 5 * l.room + 2

abbrev pub decreases-proof_of : goal.decreases-proof_of
decreases-proof_of l = 5 * l.room + 3

abbrev pub decreases-proof_within : goal.decreases-proof_within
decreases-proof_within l = 5 * l.room + 4

abbrev pub invariant-proofs-loop : goal.invariant-proofs-loop
invariant-proofs-loop l = times l.count (spec.proof l.room) l.initial.text ≡ mapped (λ xs. l.found ++ xs) (times (l.count - l.counter) (spec.proof l.room) l.text)

use Rattle.std.proofs.Common.{◌-◌, ◌*◌, length}
use Rattle.subsumption.proofs.PlacedFacts.{IsSearching}
use Rattle.subsumption.proofs.placing.+placing.Given as goal

abbrev pub decreases-place_from : goal.decreases-place_from
decreases-place_from l = 3 * (length l.task.now.member.now.lits - l.from)

abbrev pub decreases-place_at : goal.decreases-place_at
decreases-place_at l = 3 * (length l.task.now.member.now.lits - l.from) - 1

abbrev pub decreases-place_in_way : goal.decreases-place_in_way
decreases-place_in_way l = 3 * (length l.task.now.member.now.lits - l.from) - 2

abbrev pub invariant-place_from-loop-place : goal.invariant-place_from-loop-place
invariant-place_from-loop-place l = IsSearching l.task l.fn.bindings l.bindings l.fn.taken l.taken l.from l.place

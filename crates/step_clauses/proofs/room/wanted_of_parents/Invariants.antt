use Rattle.std.proofs.Common.{◌≡◌, ◌^◌, ◌-◌, min, take, sum, map}
use Rattle.step_clauses.specs.Room.{wanted}
use Rattle.step_clauses.proofs.room.wanted_of_parents.Given as goal

abbrev pub invariant-loop-parent : goal.invariant-loop-parent
invariant-loop-parent l = l.total ≡ min (sum (map (λ p. wanted p.form) (take l.parent-index l.parents))) (2 ^ 64 - 1)

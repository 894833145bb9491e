use Rattle.std.proofs.Common.{◌≡◌, ◌-◌, drop, length}
use Rattle.fof_terms.specs.Lift.{lifted}
use Rattle.flat_proofs.specs.code.Gathering.{inhabited}
use Rattle.flat_proofs.proofs.gathering.inhabited.Given as goal

abbrev pub invariant-loop-done : goal.invariant-loop-done
invariant-loop-done l = l.made ≡ inhabited (drop (length l.sorts - l.done) l.sorts) (lifted (length l.sorts - l.done) 0 l.form) l.fn.part

use Rattle.std.proofs.Common.{◌≡◌, take, map}
use Rattle.fof_terms.specs.Lift.{lifted_term}
use Rattle.superpose.proofs.moving.+moved.Given as goal

abbrev pub invariant-all_moved-loop-term : goal.invariant-all_moved-loop-term
invariant-all_moved-loop-term l = l.made.items ≡ map (lifted_term l.by 0) (take l.term-index l.terms)

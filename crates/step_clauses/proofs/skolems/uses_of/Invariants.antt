use Rattle.std.proofs.Common.{◌≡◌, take, map}
use Rattle.step_clauses.specs.Skolems.{use_of}
use Rattle.step_clauses.proofs.skolems.uses_of.Given as goal

abbrev pub invariant-loop-skolem : goal.invariant-loop-skolem
invariant-loop-skolem l = l.uses ≡ map use_of (take l.skolem-index l.skolems)

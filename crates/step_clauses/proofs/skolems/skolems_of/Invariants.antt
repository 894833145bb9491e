use Rattle.std.proofs.Common.{◌≡◌, ◌+◌, take}
use Rattle.step_clauses.specs.Skolems.{skolems_from}
use Rattle.step_clauses.proofs.skolems.skolems_of.Given as goal

abbrev pub invariant-loop-existential : goal.invariant-loop-existential
invariant-loop-existential l = (l.id ≡ l.fn.next + l.existential-index) × (l.skolems ≡ skolems_from l.fn.next (take l.existential-index l.existentials))

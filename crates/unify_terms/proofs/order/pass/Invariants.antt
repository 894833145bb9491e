use Rattle.unify_terms.specs.code.Order.{Ordering, Walked}
use Rattle.unify_terms.proofs.order.pass.Given as goal

abbrev pub invariant-loop-i : goal.invariant-loop-i
invariant-loop-i l = Ordering l.nodes l.classes l.done.items l.order × Walked l.nodes l.classes l.fn.done.items l.done.items l.i l.any

use Rattle.std.proofs.Common.{take, map, sum}
use Rattle.clause_order.specs.Order.{occurrences}
use Rattle.clause_order.specs.code.Next.{IsNext}
use Rattle.clause_order.proofs.counting.+next.Given as goal

abbrev pub invariant-next_in_all-loop-term : goal.invariant-next_in_all-loop-term
invariant-next_in_all-loop-term l = IsNext (λ x. sum (map (occurrences x) (take l.term-index l.terms))) l.from l.next

use Rattle.std.proofs.Common.{sum, map, take}
use Rattle.clause_order.specs.Order.{occurrences}
use Rattle.clause_order.proofs.Counted.{below_from, at_variable, next_in_app, next_in_more}
use Rattle.clause_order.proofs.counting.+next.Goals as goal

pub next_in_all-loop-term-preserved : goal.next_in_all-loop-term-preserved
next_in_all-loop-term-preserved t c =
    next_in_more c.args.terms.now c.loop-term.term-index c.args.from c.term-item.result c.sooner-next.result
    c.loop-term-test.true c.term-item.is
    (c.sooner-next.ensures (λ x. sum (map (occurrences x) (take c.loop-term.term-index c.args.terms.now)))
    (λ x. occurrences x c.term-item.result) c.args.from c.loop-term.invariant c.next_variable.ensures)

pub next_variable-returns-then-from : goal.next_variable-returns-then-from
next_variable-returns-then-from t c = below_from c.args.term.now c.in-Var.variable c.args.from c.from.result c.in-Var.is
    c.from.ensures c.if-from.true

pub next_variable-returns-else-from : goal.next_variable-returns-else-from
next_variable-returns-else-from t c = at_variable c.args.term.now c.in-Var.variable c.args.from c.from.result
    c.in-Var.is c.from.ensures c.if-from.false

pub next_variable-returns-in-App : goal.next_variable-returns-in-App
next_variable-returns-in-App t c = next_in_app c.args.term.now c.in-App.field-0 c.args.from c.in-App.args
    c.as_slice.result.now c.next_in_all.result c.in-App.is c.as_slice.ensures c.next_in_all.ensures

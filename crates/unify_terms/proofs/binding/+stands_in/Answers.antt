use Rattle.std.proofs.Common.{sym, ◌∙◌, arith}
use Rattle.unify_terms.proofs.Occurring.{stands_itself, stands_bound, stands_among, stands_deeper, stands_weaker}
use Rattle.unify_terms.proofs.binding.+stands_in.Goals as goal

pub stands_in-returns-then-other-variable-clause-stands : goal.stands_in-returns-then-other-variable-clause-stands
stands_in-returns-then-other-variable-clause-stands t c = λ yes. stands_itself c.args.bound.now c.args.variable c.in-Var.other c.args.term.now c.in-Var.is (omega arith)

pub stands_in-returns-in-Some-clause-stands : goal.stands_in-returns-in-Some-clause-stands
stands_in-returns-in-Some-clause-stands t c = λ yes.
    stands_bound c.args.bound.now c.args.variable c.in-Var.other c.args.term.now c.in-Some.next c.in-Var.is (sym c.bound_to.ensures ∙ c.in-Some.is) (c.stands_in.ensures.stands yes)

pub stands_in-returns-in-App-clause-stands : goal.stands_in-returns-in-App-clause-stands
stands_in-returns-in-App-clause-stands t c = λ yes.
    stands_weaker c.args.bound.now c.args.variable c.args.term.now
    (stands_deeper c.args.bound.now c.args.variable c.args.term.now c.in-App.field-0 c.in-App.args c.as_slice.result.now c.in-App.is c.as_slice.ensures (c.stands_in_one.ensures.stands yes))

pub stands_in_one-returns-then-stands_in-clause-stands : goal.stands_in_one-returns-then-stands_in-clause-stands
stands_in_one-returns-then-stands_in-clause-stands t c = λ yes.
    stands_among c.args.bound.now c.args.variable c.args.terms.now c.loop-term.term-index c.term-item.result c.loop-term-test.true c.term-item.is (c.stands_in.ensures.stands c.if-stands_in.true)

use Rattle.clause_form.proofs.Ok.{ok_map}
use Rattle.flat_form.proofs.Closed.{close_done}
use Rattle.flat_form.proofs.closing.close_over.Goals as goal

pub returns : goal.returns
returns c =
    ok_map c.closed_by.result
    (λ whole e. close_done c.args.sorts.now c.in_ok-order.order.keys c.in_ok-numbers.numbers c.as_slice.result.now c.in_ok-outer.outer c.as_slice-2.result.now c.len.result c.args.body.now c.in_ok-inner.inner c.in_ok-new.field-0 whole
    c.in_ok-order.ensures.order c.in_ok-numbers.ensures.numbers c.as_slice.ensures c.len.ensures.len c.in_ok-inner.ensures c.in_ok-outer.ensures c.as_slice-2.ensures c.in_ok-new.ensures e)
    c.closed_by.ensures

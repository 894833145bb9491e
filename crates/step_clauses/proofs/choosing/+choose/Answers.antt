use Rattle.std.proofs.Common.{arith, ◌∙◌, ◌/◌, length}
use Rattle.clause_form.proofs.Ok.{ok_map}
use Rattle.step_clauses.proofs.ChosenFacts.{one_list, of_halves}
use Rattle.step_clauses.proofs.choosing.+choose.Goals as goal

pub returns-then-lists-eq1 : goal.returns-then-lists-eq1
returns-then-lists-eq1 t c = ok_map c.singles.result (λ made e. e ∙ one_list c.args.lists.now c.index-lists-0.result c.as_slice.result.now c.if-lists-eq1.true c.index-lists-0.is c.as_slice.ensures) c.singles.ensures

pub choose-requires : goal.choose-requires
choose-requires t c = (omega (arith, c.decreases, c.split_at.ensures.front_len, c.if-lists-eq0.false, c.if-lists-eq1.false), tt)

pub choose-requires-2 : goal.choose-requires-2
choose-requires-2 t c = (omega (arith, c.decreases, c.split_at.ensures.back_len, c.if-lists-eq0.false, c.if-lists-eq1.false), tt)

pub returns : goal.returns
returns t c =
    ok_map c.join_each.result
    (λ made e. of_halves c.args.lists.now c.split_at.result.0.now c.split_at.result.1.now (length c.args.lists.now / 2) c.in_ok-left.left c.in_ok-right.right c.as_slice-2.result.now c.as_slice-3.result.now made c.split_at.ensures.front c.split_at.ensures.back c.in_ok-left.ensures c.in_ok-right.ensures c.as_slice-2.ensures c.as_slice-3.ensures e) c.join_each.ensures

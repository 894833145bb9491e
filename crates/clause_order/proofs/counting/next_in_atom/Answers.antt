use Rattle.std.proofs.Common.{ap, ◌+◌}
use Rattle.clause_order.specs.Order.{occurrences}
use Rattle.clause_order.specs.Weights.{as_term}
use Rattle.clause_order.proofs.Counted.{next_in_app, next_in_pair, next_in_none}
use Rattle.clause_order.proofs.counting.next_in_atom.Goals as goal

pub returns-in-Pred : goal.returns-in-Pred
returns-in-Pred c = next_in_app (as_term c.args.atom.now) (c.in-Pred.field-0 + 3) c.args.from c.in-Pred.args
    c.as_slice.result.now c.next_in_all.result (ap as_term c.in-Pred.is) c.as_slice.ensures c.next_in_all.ensures

pub returns-in-Eq : goal.returns-in-Eq
returns-in-Eq c =
    next_in_pair (as_term c.args.atom.now) c.in-Eq.left c.in-Eq.right 2 c.args.from c.sooner.result
    (ap as_term c.in-Eq.is)
    (c.sooner.ensures (λ x. occurrences x c.in-Eq.left) (λ x. occurrences x c.in-Eq.right) c.args.from
    c.next_variable.ensures c.next_variable-in-Eq.ensures)

pub returns-in-True : goal.returns-in-True
returns-in-True c = next_in_none (as_term c.args.atom.now) 1 c.args.from (ap as_term c.in-True.is)

pub returns-in-False : goal.returns-in-False
returns-in-False c = next_in_none (as_term c.args.atom.now) 0 c.args.from (ap as_term c.in-False.is)

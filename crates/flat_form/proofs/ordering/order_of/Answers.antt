use Rattle.std.proofs.Common.{sym, subst, ◌≤◌, ◌<◌, length}
use Rattle.std.specs.List.{All as Each}
use Rattle.flat_form.proofs.Order.{order_met, order_few, order_below}
use Rattle.flat_form.proofs.ordering.order_of.Goals as goal

pub returns-clause-few : goal.returns-clause-few
returns-clause-few c =
    let same = order_met c.args.count c.args.form.now c.new-met.result.keys c.meet.new.met.keys c.new-met.ensures.empty c.in_ok-meet.ensures in
    subst (λ ks. length ks ≤ c.args.count) (sym same) (order_few c.args.count c.args.form.now)

pub returns-clause-below : goal.returns-clause-below
returns-clause-below c =
    let same = order_met c.args.count c.args.form.now c.new-met.result.keys c.meet.new.met.keys c.new-met.ensures.empty c.in_ok-meet.ensures in
    subst (Each (λ k. k < c.args.count)) (sym same) (order_below c.args.count c.args.form.now)

use Rattle.std.proofs.Common.{sym, ◌∙◌}
use Rattle.tstp_graph.specs.code.Flags.{flag_at}
use Rattle.tstp_graph.proofs.Orders.{left_here, left_later, not_true_is, not_false_is}
use Rattle.tstp_graph.proofs.order.next_left.Goals as goal

pub returns-then-is_left : goal.returns-then-is_left
returns-then-is_left c =
    left_here (flag_at c.args.taken.now) c.args.nodes.now c.loop-number.number c.loop-number-test.true (not_true_is _ (sym c.is_left.ensures ∙ c.if-is_left.true)) c.loop-number.invariant

pub loop-number-preserved : goal.loop-number-preserved
loop-number-preserved c =
    left_later (flag_at c.args.taken.now) c.args.nodes.now c.loop-number.number c.loop-number-test.true (not_false_is _ (sym c.is_left.ensures ∙ c.if-is_left.false)) c.loop-number.invariant

use Rattle.std.proofs.Common.{length, subst, arith}
use Rattle.tstp_graph.specs.code.Meaning.{means_in}
use Rattle.tstp_graph.specs.code.Nodes.{item_answer}
use Rattle.tstp_graph.specs.code.Nodes.{IsStep}
use Rattle.tstp_graph.proofs.Resolving.{nodes_more}
use Rattle.tstp_graph.proofs.node.nodes_of.Goals as goal

pub loop-item-preserved : goal.loop-item-preserved
loop-item-preserved c =
    let step = subst (λ n. IsStep (item_answer (means_in c.args.scope.now) n (length c.loop-item.nodes) c.item-item.result) c.loop-item.nodes c.add_item.new.nodes) c.loop-item.invariant.at c.in_ok-add_item.ensures.ok in
    record {
      at = omega (arith, c.loop-item.invariant.at);
      few = omega (arith, c.in_ok-add_item.ensures.len, c.loop-item.invariant.few);
      so_far = nodes_more (means_in c.args.scope.now) c.args.items.now c.loop-item.item-index c.item-item.result c.loop-item.nodes c.add_item.new.nodes c.loop-item-test.true c.item-item.is c.loop-item.invariant.so_far step;
    }

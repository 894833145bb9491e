use Rattle.std.proofs.Common.{rules, ◌≡◌, true, sym}
use Rattle.tstp_graph.specs.code.Meaning.{means_in}
use Rattle.tstp_graph.specs.code.Nodes.{is_first}
use Rattle.tstp_graph.proofs.Resolving.{line_resolves, not_false_is}
use Rattle.tstp_graph.proofs.node.line_node.Goals as goal

pub returns : goal.returns
returns c =
    let first : is_first c.places.result.now c.args.number ≡ true = sym c.if-not-is_first.ensures in
    let good : c.in_ok-source.source.is_good ≡ true = search (rules, not_false_is) in
    line_resolves (means_in c.args.scope.now) c.args.at c.args.number c.args.formula.now c.in_ok-source.source c.places.result.now c.as_slice.result.now c.in_ok-parents.parents c.resolved_node.result c.places.ensures first c.in_ok-source.ensures good c.as_slice.ensures c.in_ok-parents.ensures c.resolved_node.ensures

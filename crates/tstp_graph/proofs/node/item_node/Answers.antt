use Rattle.std.proofs.Common.{sym}
use Rattle.tstp_graph.specs.code.Meaning.{means_in}
use Rattle.tstp_graph.proofs.Resolving.{item_resolves}
use Rattle.tstp_graph.proofs.node.item_node.Goals as goal

pub returns-else-is_typing : goal.returns-else-is_typing
returns-else-is_typing c =
    item_resolves (means_in c.args.scope.now) c.args.at c.args.number c.args.item.now c.in-Formula.formula c.get-formula.result.now c.line_node.result c.in-Formula.is c.get-formula.ensures (sym c.if-is_typing.ensures) c.line_node.ensures

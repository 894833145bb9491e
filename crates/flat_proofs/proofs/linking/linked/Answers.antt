use Rattle.derive_kit.proofs.Built.{ok_map}
use Rattle.flat_proofs.proofs.NodeFacts.{linked_is}
use Rattle.flat_proofs.proofs.linking.linked.Goals as goal

pub returns : goal.returns
returns c = ok_map c.imp_i.result (λ made e. linked_is c.args.from.now c.args.to.now c.args.parts c.args.kind c.in_ok-copy_all.field-0 c.node.result c.in_ok-inner.inner made c.in_ok-inner.ensures c.in_ok-copy_all.ensures c.node.ensures e) c.imp_i.ensures

use Rattle.derive_kit.proofs.Built.{ok_map}
use Rattle.flat_proofs.proofs.NodeFacts.{links_and, links_or}
use Rattle.flat_proofs.proofs.linking.node_of_arms.Goals as goal

pub returns-then-kind : goal.returns-then-kind
returns-then-kind c = ok_map c.and_i.result (λ made e. links_and c.args.to.now c.args.parts c.in_ok-arms.arms made c.args.kind c.if-kind.true c.in_ok-arms.ensures e) c.and_i.ensures

pub returns : goal.returns
returns c = ok_map c.or_e.result (λ made e. links_or c.args.to.now c.args.parts c.in_ok-arms.arms made c.args.kind c.if-kind.false c.in_ok-copy_all.field-0 c.in_ok-own.own c.in_ok-arms.ensures c.in_ok-own.ensures c.in_ok-copy_all.ensures e) c.or_e.ensures

use Rattle.std.proofs.Common.{map}
use Rattle.derive_kit.proofs.Built.{ok_map}
use Rattle.flat_proofs.specs.code.Members.{seen}
use Rattle.flat_proofs.proofs.NodeFacts.{forth_is}
use Rattle.flat_proofs.proofs.gathering.forwards.Goals as goal

pub returns : goal.returns
returns c =
    ok_map c.imp_i.result
    (λ made e. forth_is c.args.sorts.now c.args.bodies.now c.args.closed.now (map seen c.args.members.now) c.requires.sorts c.requires.bodies c.requires.closed c.args.kind c.in_ok-copy_all.field-0 c.node.result c.in_ok-inner.inner c.in_ok-all.all made c.in_ok-inner.ensures c.in_ok-all.ensures c.in_ok-copy_all.ensures c.node.ensures e)
    c.imp_i.ensures

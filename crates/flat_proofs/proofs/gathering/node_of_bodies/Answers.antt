use Rattle.std.proofs.Common.{map}
use Rattle.derive_kit.proofs.Built.{ok_map}
use Rattle.flat_proofs.specs.code.Members.{seen}
use Rattle.flat_proofs.proofs.NodeFacts.{bodies_and, bodies_or}
use Rattle.flat_proofs.proofs.gathering.node_of_bodies.Goals as goal

pub returns-then-kind : goal.returns-then-kind
returns-then-kind c = ok_map c.and_i.result (λ made e. bodies_and c.args.bodies.now (map seen c.args.members.now) c.in_ok-and_arms.field-0 made c.args.kind c.if-kind.true c.in_ok-and_arms.ensures e) c.and_i.ensures

pub returns : goal.returns
returns c =
    ok_map c.or_e.result (λ made e. bodies_or c.args.bodies.now (map seen c.args.members.now) c.in_ok-arms.arms made c.args.kind c.if-kind.false c.in_ok-copy_all.field-0 c.in_ok-own.own c.in_ok-arms.ensures c.in_ok-own.ensures c.in_ok-copy_all.ensures e) c.or_e.ensures

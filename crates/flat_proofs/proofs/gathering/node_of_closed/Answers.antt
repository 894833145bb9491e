use Rattle.std.proofs.Common.{map}
use Rattle.derive_kit.proofs.Built.{ok_map}
use Rattle.flat_proofs.specs.code.Members.{seen}
use Rattle.flat_proofs.proofs.NodeFacts.{closed_and, closed_or}
use Rattle.flat_proofs.proofs.gathering.node_of_closed.Goals as goal

pub returns-then-kind : goal.returns-then-kind
returns-then-kind c = ok_map c.and_i.result (λ made e. closed_and c.args.closed.now (map seen c.args.members.now) made c.args.kind c.if-kind.true c.in_ok-back_arms.field-0 c.in_ok-back_arms.ensures e) c.and_i.ensures

pub returns : goal.returns
returns c =
    ok_map c.raa.result (λ made e. closed_or c.args.closed.now (map seen c.args.members.now) made c.args.kind c.if-kind.false c.in_ok-copy_all.field-0 c.in_ok-absurd.absurd c.in_ok-absurd.ensures c.in_ok-copy_all.ensures e) c.raa.ensures

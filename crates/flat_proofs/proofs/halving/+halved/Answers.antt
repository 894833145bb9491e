use Rattle.std.proofs.Common.{arith, ◌/◌, length}
use Rattle.derive_kit.proofs.Built.{ok_map}
use Rattle.flat_proofs.proofs.Halves.{front_room, rear_room, few_sorts, few_bodies, halved_gathers}
use Rattle.flat_proofs.proofs.halving.+halved.Goals as goal

pub halved-requires : goal.halved-requires
halved-requires t c =
    (omega (arith, c.decreases, c.split_at.ensures.front_len, c.if-members-lt2.false), front_room c.args.members.now (length c.args.members.now / 2) c.split_at.result.0.now c.split_at.result.1.now c.split_at.ensures.front c.split_at.ensures.back c.requires)

pub halved-requires-2 : goal.halved-requires-2
halved-requires-2 t c =
    (omega (arith, c.decreases, c.split_at.ensures.back_len, c.if-members-lt2.false), rear_room c.args.members.now (length c.args.members.now / 2) c.split_at.result.0.now c.split_at.result.1.now c.split_at.ensures.front c.split_at.ensures.back c.requires)

pub grouped-requires-2 : goal.grouped-requires-2
grouped-requires-2 t c = front_room c.args.members.now (length c.args.members.now / 2) c.split_at.result.0.now c.split_at.result.1.now c.split_at.ensures.front c.split_at.ensures.back c.requires

pub grouped-requires-3 : goal.grouped-requires-3
grouped-requires-3 t c = rear_room c.args.members.now (length c.args.members.now / 2) c.split_at.result.0.now c.split_at.result.1.now c.split_at.ensures.front c.split_at.ensures.back c.requires

pub joined-requires-clause-variables : goal.joined-requires-clause-variables
joined-requires-clause-variables t c =
    few_sorts c.args.members.now (length c.args.members.now / 2) c.split_at.result.0.now c.split_at.result.1.now c.split_at.ensures.front c.split_at.ensures.back c.requires c.in_ok-left.left.sorts c.in_ok-right.right.sorts c.in_ok-left.ensures.sorts c.in_ok-right.ensures.sorts

pub joined-requires-clause-members : goal.joined-requires-clause-members
joined-requires-clause-members t c =
    few_bodies c.args.members.now (length c.args.members.now / 2) c.split_at.result.0.now c.split_at.result.1.now c.split_at.ensures.front c.split_at.ensures.back c.requires c.in_ok-left.left.bodies c.in_ok-right.right.bodies c.in_ok-left.ensures.bodies c.in_ok-right.ensures.bodies

pub returns : goal.returns
returns t c =
    ok_map c.joined.result
    (λ made e. halved_gathers c.args.members.now (length c.args.members.now / 2) c.split_at.result.0.now c.split_at.result.1.now c.split_at.ensures.front c.split_at.ensures.back c.in_ok-whole.whole c.in_ok-left.left c.in_ok-right.right c.in_ok-first.first c.in_ok-last.last made
    c.in_ok-whole.ensures.sorts c.in_ok-whole.ensures.bodies c.in_ok-left.ensures.sorts c.in_ok-left.ensures.bodies c.in_ok-left.ensures.closed c.in_ok-right.ensures.sorts c.in_ok-right.ensures.bodies c.in_ok-right.ensures.closed c.in_ok-first.ensures c.in_ok-last.ensures e) c.joined.ensures

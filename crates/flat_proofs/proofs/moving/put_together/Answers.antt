use Rattle.std.proofs.Common.{◌∙◌, ap, arith, length}
use Rattle.flat_proofs.specs.code.Members.{room_of}
use Rattle.clause_form.specs.Norm.{node}
use Rattle.flat_proofs.proofs.MemberFacts.{seen_count}
use Rattle.flat_proofs.proofs.Together.{sorts_are, body_is, closed_are, node_room, few_forms, led_node}
use Rattle.flat_proofs.proofs.moving.put_together.Goals as goal

pub bodies_of_all-requires-clause-many : goal.bodies_of_all-requires-clause-many
bodies_of_all-requires-clause-many c =
    let r = node_room c.args.kind c.args.forth c.args.forms.now c.args.members.now c.requires.members c.args.parts c.requires.size c.requires.spacious c.requires.parts in
    omega (arith, r.members, seen_count c.args.members.now)

pub bodies_of_all-requires-clause-few : goal.bodies_of_all-requires-clause-few
bodies_of_all-requires-clause-few c =
    let r = node_room c.args.kind c.args.forth c.args.forms.now c.args.members.now c.requires.members c.args.parts c.requires.size c.requires.spacious c.requires.parts in
    let same = ap length c.in_ok-sorts.ensures in
    omega (arith, r.few, c.len.ensures)

pub bodies_of_all-requires-clause-room : goal.bodies_of_all-requires-clause-room
bodies_of_all-requires-clause-room c = node_room c.args.kind c.args.forth c.args.forms.now c.args.members.now c.requires.members c.args.parts c.requires.size c.requires.spacious c.requires.parts

pub gather-requires-clause-many : goal.gather-requires-clause-many
gather-requires-clause-many c =
    let r = node_room c.args.kind c.args.forth c.args.forms.now c.args.members.now c.requires.members c.args.parts c.requires.size c.requires.spacious c.requires.parts in
    omega (arith, r.members, seen_count c.args.members.now)

pub gather-requires-clause-few : goal.gather-requires-clause-few
gather-requires-clause-few c =
    let r = node_room c.args.kind c.args.forth c.args.forms.now c.args.members.now c.requires.members c.args.parts c.requires.size c.requires.spacious c.requires.parts in
    let same = ap length (c.as_slice.ensures ∙ c.in_ok-sorts.ensures) in
    omega (arith, r.few)

pub gather-requires-clause-room : goal.gather-requires-clause-room
gather-requires-clause-room c = node_room c.args.kind c.args.forth c.args.forms.now c.args.members.now c.requires.members c.args.parts c.requires.size c.requires.spacious c.requires.parts

pub link_or_none-requires-clause-few : goal.link_or_none-requires-clause-few
link_or_none-requires-clause-few c = few_forms c.args.kind c.args.forms.now c.requires.size

pub link_or_none-requires-clause-closed : goal.link_or_none-requires-clause-closed
link_or_none-requires-clause-closed c = closed_are c.args.kind c.args.forth c.args.forms.now c.args.members.now c.requires.members c.as_slice-4.result.now (c.as_slice-4.ensures ∙ c.in_ok-all.ensures)

pub link_or_none-requires-clause-parts : goal.link_or_none-requires-clause-parts
link_or_none-requires-clause-parts c = (room_of (node c.args.kind c.args.forms.now), c.requires.parts)

pub returns-clause-sorts : goal.returns-clause-sorts
returns-clause-sorts c = sorts_are c.args.kind c.args.forth c.args.forms.now c.args.members.now c.requires.members c.in_ok-sorts.sorts c.in_ok-sorts.ensures

pub returns-clause-body : goal.returns-clause-body
returns-clause-body c = body_is c.args.kind c.args.forth c.args.forms.now c.args.members.now c.requires.members c.in_ok-bodies.bodies c.node.result c.in_ok-bodies.ensures c.node.ensures

pub returns-clause-part : goal.returns-clause-part
returns-clause-part c =
    led_node c.args.kind c.args.forth c.args.forms.now c.args.members.now c.requires.members c.args.parts c.requires.parts c.in_ok-sorts.sorts c.in_ok-bodies.bodies c.in_ok-all.all c.as_slice-4.result.now c.node.result c.get.result.now c.get-2.result.now
    c.in_ok-gathered.gathered c.in_ok-linked.linked c.in_ok-part.part c.in_ok-sorts.ensures c.in_ok-bodies.ensures c.in_ok-all.ensures c.as_slice-4.ensures c.node.ensures (c.get.ensures ∙ (c.in_ok-first.ensures ∙ (c.node-2.ensures ∙ ap (node c.args.kind) c.in_ok-copy_all.ensures))) (c.get-2.ensures ∙ c.in_ok-last.ensures)
    c.in_ok-gathered.ensures c.in_ok-linked.ensures c.in_ok-part.ensures

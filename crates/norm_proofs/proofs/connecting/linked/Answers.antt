use Rattle.std.proofs.Common.{refl}
use Rattle.derive_kit.proofs.Built.{ok_map}
use Rattle.norm_proofs.proofs.Made.{linked_made, unlinked_made}
use Rattle.norm_proofs.proofs.connecting.linked.Goals as goal

pub returns-then-equal_all : goal.returns-then-equal_all
returns-then-equal_all c =
    ok_map c.same.result (λ made e n arms.
    unlinked_made c.args.way.positive c.args.way.forth n c.args.way.conjunction c.args.forms.now c.args.norms.now made c.in_ok-node.field-0 c.if-way.true (c.if-equal_all.ensures.0 refl) e c.in_ok-node.ensures) c.same.ensures

pub returns : goal.returns
returns c =
    ok_map c.link.result (λ made e n arms.
    linked_made c.args.way.positive c.args.way.forth n c.args.way.conjunction c.args.forms.now c.args.norms.now c.args.parts made c.requires e arms) c.link.ensures

use Rattle.std.proofs.Common.{◌∙◌}
use Rattle.derive_kit.proofs.Built.{ok_map}
use Rattle.norm_proofs.proofs.Made.{pair_made}
use Rattle.norm_proofs.proofs.connecting.pair_step.Goals as goal

pub node_step-requires-clause-norms : goal.node_step-requires-clause-norms
node_step-requires-clause-norms c = c.as_slice-3.ensures ∙ c.in_ok-norms.ensures ∙ c.requires.norms

pub returns-clause-part : goal.returns-clause-part
returns-clause-part c =
    let norms = c.in_ok-norms.ensures ∙ c.requires.norms in
    ok_map c.node_step.result (λ made f n a b is l k.
    f n (pair_made c.args.way.positive c.args.way.forth n c.args.way.conjunction c.args.forms.now c.as_slice.result.now c.as_slice-2.result.now c.in_ok-two.field-0 c.in_ok-one.one c.in_ok-other.other c.args.first.part c.args.second.part
    c.index-forms-0.result c.index-forms-1.result a b c.in_ok-two.ensures c.in_ok-one.ensures c.in_ok-other.ensures c.index-forms-0.is c.index-forms-1.is (c.as_slice.ensures ∙ norms) (c.as_slice-2.ensures ∙ norms) is l k)) c.node_step.ensures.part

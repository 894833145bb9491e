use Rattle.std.proofs.Common.{◌∙◌}
use Rattle.norm_proofs.proofs.NormsFacts.{few_norms, few_flat}
use Rattle.norm_proofs.proofs.Made.{node_made, node_norm}
use Rattle.norm_proofs.proofs.connecting.node_step.Goals as goal

pub join_step-requires-clause-few : goal.join_step-requires-clause-few
join_step-requires-clause-few c = few_norms c.args.way.conjunction c.args.way.positive c.args.forms.now c.args.norms.now c.requires.norms c.requires.size

pub join_step-requires-clause-small : goal.join_step-requires-clause-small
join_step-requires-clause-small c = few_flat c.args.way.conjunction _ c.args.way.positive c.args.forms.now c.args.norms.now c.requires.norms c.requires.size

pub returns-clause-norm : goal.returns-clause-norm
returns-clause-norm c = node_norm c.args.way.positive c.args.way.conjunction c.kind-2.result c.args.forms.now c.args.norms.now c.in_ok-norm.norm c.in_ok-norm.ensures c.kind-2.ensures c.requires.norms

pub returns-clause-part : goal.returns-clause-part
returns-clause-part c = λ n arms.
    node_made c.args.way.positive c.args.way.forth n c.args.way.conjunction c.kind.result c.kind-2.result c.args.forms.now c.args.norms.now
    c.in_ok-part.part c.in_ok-linked.linked c.in_ok-joined.joined c.in_ok-first.first c.in_ok-last.last c.in_ok-node.field-0 c.in_ok-part.ensures c.in_ok-first.ensures c.in_ok-node.ensures
    (c.in_ok-last.ensures ∙ c.get.ensures ∙ c.in_ok-norm.ensures) c.kind.ensures c.kind-2.ensures c.requires.norms (c.in_ok-linked.ensures n arms) (c.in_ok-joined.ensures n)

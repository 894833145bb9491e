use Rattle.std.proofs.Common.{◌∙◌}
use Rattle.derive_kit.proofs.Built.{ok_map}
use Rattle.norm_proofs.proofs.RoutesFacts.{alone_one, alone_several}
use Rattle.norm_proofs.proofs.widening.disjunction.Goals as goal

pub returns-then-members-eq1 : goal.returns-then-members-eq1
returns-then-members-eq1 c = ok_map c.copy.result (λ made e. e ∙ alone_one c.args.members.now c.index-members-0.result c.if-members-eq1.true c.index-members-0.is) c.copy.ensures

pub returns : goal.returns
returns c = ok_map c.node.result (λ made e. e ∙ alone_several c.args.members.now c.if-members-eq1.false) c.node.ensures

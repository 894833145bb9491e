use Rattle.derive_kit.proofs.Built.{ok_map}
use Rattle.norm_proofs.proofs.Made.{under_plus, under_minus}
use Rattle.norm_proofs.proofs.connecting.under_sign.Goals as goal

pub returns-then-positive : goal.returns-then-positive
returns-then-positive c = λ n l. under_plus c.args.positive c.args.forth n c.args.part c.args.first c.args.last c.if-positive.true l

pub returns : goal.returns
returns c = ok_map c.between_denied.result (λ made e n l. under_minus c.args.positive c.args.forth n c.args.part made c.args.first c.args.last c.if-positive.false e l) c.between_denied.ensures

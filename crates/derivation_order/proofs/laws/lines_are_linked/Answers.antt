use Rattle.derivation_order.proofs.Found.{found_linked}
use Rattle.derivation_order.proofs.laws.lines_are_linked.Goals as goal

pub returns : goal.returns
returns c = λ v given limit d few small found. found_linked v given limit d found few small

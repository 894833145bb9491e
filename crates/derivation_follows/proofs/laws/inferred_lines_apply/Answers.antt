use Rattle.derivation_follows.proofs.Applying.{inferred_apply}
use Rattle.derivation_follows.proofs.laws.inferred_lines_apply.Goals as goal

pub returns : goal.returns
returns c = λ v given limit d few less f small w fit. inferred_apply v given limit d f few less w fit small

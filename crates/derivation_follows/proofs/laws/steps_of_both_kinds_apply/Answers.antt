use Rattle.derivation_follows.proofs.Applying.{all_apply}
use Rattle.derivation_follows.proofs.laws.steps_of_both_kinds_apply.Goals as goal

pub returns : goal.returns
returns c = λ w given lines inferred others. all_apply w given lines inferred others

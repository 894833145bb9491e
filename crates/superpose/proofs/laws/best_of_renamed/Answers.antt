use Rattle.superpose.proofs.InferLaws.{renamed_best}
use Rattle.superpose.proofs.laws.best_of_renamed.Goals as goal

pub returns : goal.returns
returns c = renamed_best

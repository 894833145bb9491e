use Rattle.superpose.proofs.InferLaws.{best_of_one}
use Rattle.superpose.proofs.laws.best_inference_from_one.Goals as goal

pub returns : goal.returns
returns c = best_of_one

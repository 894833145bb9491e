use Rattle.superpose.proofs.InferLaws.{best_of_two}
use Rattle.superpose.proofs.laws.best_inference_from_two.Goals as goal

pub returns : goal.returns
returns c = best_of_two

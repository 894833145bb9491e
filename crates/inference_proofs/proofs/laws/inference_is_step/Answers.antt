use Rattle.inference_proofs.proofs.Covered.{inferred_is_step}
use Rattle.inference_proofs.proofs.laws.inference_is_step.Goals as goal

pub returns : goal.returns
returns c = inferred_is_step

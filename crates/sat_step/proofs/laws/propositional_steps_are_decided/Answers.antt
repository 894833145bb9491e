use Rattle.sat_step.proofs.Deciding.{decides}
use Rattle.sat_step.proofs.laws.propositional_steps_are_decided.Goals as goal

pub returns : goal.returns
returns c = decides

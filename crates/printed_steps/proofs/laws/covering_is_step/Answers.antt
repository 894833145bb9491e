use Rattle.printed_steps.proofs.Norming.{covers_by_rule}
use Rattle.printed_steps.proofs.laws.covering_is_step.Goals as goal

pub returns : goal.returns
returns c = covers_by_rule

use Rattle.printed_steps.proofs.Reaching.{reached_covered}
use Rattle.printed_steps.proofs.laws.reached_is_covered.Goals as goal

pub returns : goal.returns
returns c = λ v parents a path d reaches own proper. reached_covered v d own parents a path reaches proper

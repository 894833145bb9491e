use Rattle.printed_steps.proofs.Reaching.{listed_covered}
use Rattle.printed_steps.proofs.laws.listed_is_covered.Goals as goal

pub returns : goal.returns
returns c = λ v parents a p d there small listed own proper. listed_covered v d own parents a p there small listed proper

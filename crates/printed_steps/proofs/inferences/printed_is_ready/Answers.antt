use Rattle.printed_steps.proofs.Sorting.{printed_ready}
use Rattle.printed_steps.proofs.inferences.printed_is_ready.Goals as goal

pub returns : goal.returns
returns c = printed_ready

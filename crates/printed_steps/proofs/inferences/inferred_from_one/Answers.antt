use Rattle.printed_steps.proofs.Inferring.{from_one_printed}
use Rattle.printed_steps.proofs.inferences.inferred_from_one.Goals as goal

pub returns : goal.returns
returns c = λ v w number parents a premise e s hp he at infers. from_one_printed v w number parents a premise e hp he at s infers

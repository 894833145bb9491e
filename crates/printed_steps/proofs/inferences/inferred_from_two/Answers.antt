use Rattle.printed_steps.proofs.Inferring.{from_two_printed}
use Rattle.printed_steps.proofs.inferences.inferred_from_two.Goals as goal

pub returns : goal.returns
returns c = λ v w number parents a b left right e s hl hr he at_a at_b infers. from_two_printed v w number parents a b left right e hl hr he at_a at_b s infers

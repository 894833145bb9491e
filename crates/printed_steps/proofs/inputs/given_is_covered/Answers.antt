use Rattle.printed_steps.proofs.Given.{given_covered}
use Rattle.printed_steps.proofs.inputs.given_is_covered.Goals as goal

pub returns : goal.returns
returns c = given_covered

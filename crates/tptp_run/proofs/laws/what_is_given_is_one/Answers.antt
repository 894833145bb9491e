use Rattle.read_problems.proofs.OneProblem.{one_given}
use Rattle.tptp_run.proofs.laws.what_is_given_is_one.Goals as goal

pub returns : goal.returns
returns c = one_given

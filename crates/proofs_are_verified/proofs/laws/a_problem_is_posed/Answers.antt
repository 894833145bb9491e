use Rattle.proofs_are_verified.proofs.Posed.{problem_posed}
use Rattle.proofs_are_verified.proofs.laws.a_problem_is_posed.Goals as goal

pub returns : goal.returns
returns c = problem_posed

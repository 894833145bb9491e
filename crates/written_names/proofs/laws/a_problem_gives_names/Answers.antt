use Rattle.written_names.proofs.Given.{problem_named}
use Rattle.written_names.proofs.laws.a_problem_gives_names.Goals as goal

pub returns : goal.returns
returns c = problem_named

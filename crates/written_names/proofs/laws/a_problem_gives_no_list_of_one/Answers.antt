use Rattle.written_names.proofs.Given.{problem_listed}
use Rattle.written_names.proofs.laws.a_problem_gives_no_list_of_one.Goals as goal

pub returns : goal.returns
returns c = problem_listed

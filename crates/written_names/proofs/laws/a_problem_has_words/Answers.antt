use Rattle.written_names.proofs.Given.{problem_words}
use Rattle.written_names.proofs.laws.a_problem_has_words.Goals as goal

pub returns : goal.returns
returns c = problem_words

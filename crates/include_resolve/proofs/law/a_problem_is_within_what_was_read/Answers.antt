use Rattle.include_resolve.proofs.Sizes.{problem_within}
use Rattle.include_resolve.proofs.law.a_problem_is_within_what_was_read.Goals as goal

pub returns : goal.returns
returns c = problem_within

use Rattle.include_resolve.proofs.ResolvedItems.{problem_resolved}
use Rattle.include_resolve.proofs.law.all_includes_are_replaced.Goals as goal

pub returns : goal.returns
returns c = problem_resolved

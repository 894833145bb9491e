use Rattle.include_resolve.proofs.SpelledItems.{problem_spelled}
use Rattle.include_resolve.proofs.law.resolved_items_are_spelled.Goals as goal

pub returns : goal.returns
returns c = problem_spelled

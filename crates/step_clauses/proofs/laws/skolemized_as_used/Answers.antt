use Rattle.step_clauses.proofs.Placed.{skolemized_is}
use Rattle.step_clauses.proofs.laws.skolemized_as_used.Goals as goal

pub returns : goal.returns
returns c = skolemized_is

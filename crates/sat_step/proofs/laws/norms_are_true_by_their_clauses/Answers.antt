use Rattle.sat_step.proofs.Truth.{norm_true}
use Rattle.sat_step.proofs.laws.norms_are_true_by_their_clauses.Goals as goal

pub returns : goal.returns
returns c = norm_true

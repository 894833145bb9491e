use Rattle.std.proofs.Common.{length}
use Rattle.step_clauses.proofs.choosing.+choose.Given as goal

abbrev pub decreases-choose : goal.decreases-choose
decreases-choose l = length l.lists.now

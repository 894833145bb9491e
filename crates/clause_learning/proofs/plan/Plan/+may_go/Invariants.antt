use Rattle.std.proofs.Common.{◌+◌, ◌*◌}
use Rattle.clause_learning.proofs.plan.Plan.+may_go.Given as goal

abbrev pub decreases-all_may_go : goal.decreases-all_may_go
decreases-all_may_go l = 2 * l.depth + 1

abbrev pub decreases-may_go : goal.decreases-may_go
decreases-may_go l = 2 * l.depth

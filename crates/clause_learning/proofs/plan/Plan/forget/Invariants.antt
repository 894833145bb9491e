use Rattle.std.proofs.Common.{length}
use Rattle.clause_learning.proofs.plan.Plan.forget.Given as goal

abbrev pub decreases-atoms : goal.decreases-atoms
decreases-atoms l = length l.self.seen

abbrev pub decreases-order : goal.decreases-order
decreases-order l = length l.self.order

use Rattle.clause_learning.proofs.Turning.{decided}
use Rattle.clause_learning.proofs.solver.Solver.choose.Goals as goal

pub returns-in-Some : goal.returns-in-Some
returns-in-Some c = decided c.args.self.now c.push.new.self c.in-Some.literal c.requires c.in-Some.ensures c.in_ok-push.ensures

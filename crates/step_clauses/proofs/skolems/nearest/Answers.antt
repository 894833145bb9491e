use Rattle.std.proofs.Common.{arith}
use Rattle.step_clauses.specs.Skolems.{nearest}
use Rattle.step_clauses.proofs.SkolemsFacts.{nearest_down}
use Rattle.step_clauses.proofs.skolems.nearest.Goals as goal

pub loop-left-preserved : goal.loop-left-preserved
loop-left-preserved c = (
  omega (arith, c.loop-left.invariant.0, c.loop-left-test.true),
  nearest_down c.loop-left.left c.loop-left.variables c.push.new.self (nearest c.args.count) c.loop-left.invariant.1 (omega (arith, c.loop-left-test.true)) c.in_ok-push.ensures.ok,
)

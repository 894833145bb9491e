use Rattle.std.proofs.Common.{ap, ◌+◌}
use Rattle.step_clauses.proofs.InputFacts.{one_made}
use Rattle.step_clauses.proofs.input.clausal_of_norms.Goals as goal

pub loop-norm-preserved : goal.loop-norm-preserved
loop-norm-preserved c =
    one_made c.args.next c.args.norms.now c.loop-norm.norm-index c.norm-item.result c.loop-norm.made c.push_clausal.new.made (c.args.next + c.len.result) c.loop-norm-test.true c.norm-item.is c.loop-norm.invariant (ap (λ n. c.args.next + n) c.len.ensures) c.in_ok-push_clausal.ensures.clauses c.in_ok-push_clausal.ensures.skolems

use Rattle.clause_form.specs.Paths.{reached}
use Rattle.step_clauses.proofs.WaysFacts.{found_more}
use Rattle.step_clauses.proofs.clausal.push_reached.Goals as goal

pub loop-path-preserved : goal.loop-path-preserved
loop-path-preserved c =
    found_more (λ p. reached p c.args.form.now) c.args.paths.now c.loop-path.path-index c.path-item.result c.args.clauses.now c.loop-path.clauses c.push_one.new.clauses c.loop-path-test.true c.path-item.is c.loop-path.invariant c.in_ok-push_one.ensures

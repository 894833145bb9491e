use Rattle.std.proofs.Common.{arith, map}
use Rattle.fof_terms.specs.Lift.{lifted_term}
use Rattle.clause_form.specs.Clauses.{variables}
use Rattle.step_clauses.proofs.SkolemizingFacts.{variables_down}
use Rattle.step_clauses.proofs.skolemizing.variables.Goals as goal

pub loop-left-preserved : goal.loop-left-preserved
loop-left-preserved c = (
  omega (arith, c.loop-left.invariant.0, c.loop-left-test.true),
  variables_down c.args.further c.loop-left.left c.loop-left.made c.push.new.self (map (lifted_term c.args.further 0) (variables c.args.count)) c.loop-left.invariant.1 (omega (arith, c.loop-left-test.true)) c.in_ok-push.ensures.ok,
)

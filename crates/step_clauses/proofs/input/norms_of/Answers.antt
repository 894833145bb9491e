use Rattle.step_clauses.proofs.InputFacts.{step_norms}
use Rattle.step_clauses.proofs.input.norms_of.Goals as goal

pub returns : goal.returns
returns c = step_norms c.args.parents.now c.args.line.now _ _ _ c.in_ok-norms.ensures c.in_ok-norm_signed.ensures c.in_ok-push.ensures.ok

use Rattle.elaborate.proofs.StepAnswers.{skolem_found}
use Rattle.elaborate.proofs.naming.skolemized.Goals as goal

pub returns-in_ok-entries-in-Some : goal.returns-in_ok-entries-in-Some
returns-in_ok-entries-in-Some c = (
  skolem_found c.args.theory.now c.args.parents.now c.args.line.now c.in_ok-just.field-0 c.in-Some.just c.in-Some.is c.in_ok-just.ensures,
  c.in_ok-entries-in-Some.ensures.derives,
)

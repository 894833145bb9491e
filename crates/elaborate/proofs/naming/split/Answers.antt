use Rattle.elaborate.proofs.StepAnswers.{split_found}
use Rattle.elaborate.proofs.naming.split.Goals as goal

pub returns-in_ok-entries-in-Some : goal.returns-in_ok-entries-in-Some
returns-in_ok-entries-in-Some c = (
  split_found c.args.theory.now.vocabulary c.args.parents.now c.args.line.now c.in_ok-just.field-0 c.in-Some.just c.in-Some.is c.in_ok-just.ensures,
  c.in_ok-entries-in-Some.ensures,
)

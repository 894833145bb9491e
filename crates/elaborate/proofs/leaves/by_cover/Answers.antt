use Rattle.clause_rules.specs.Answers.{cover}
use Rattle.rule_proofs.proofs.Answered.{answer_shows}
use Rattle.elaborate.proofs.StepAnswers.{cover_given}
use Rattle.elaborate.proofs.leaves.by_cover.Goals as goal

pub prove-requires-clause-shown : goal.prove-requires-clause-shown
prove-requires-clause-shown c = (answer_shows c.args.signature.now c.args.candidates.now c.args.line.now cover c.in_ok-just.field-0 c.in-Some.just c.in-Some.is c.in_ok-just.ensures).1

pub returns-in_ok-proof-in-Some : goal.returns-in_ok-proof-in-Some
returns-in_ok-proof-in-Some c = (
  cover_given c.args.signature.now c.args.candidates.now c.args.line.now c.in-Some.just (answer_shows c.args.signature.now c.args.candidates.now c.args.line.now cover c.in_ok-just.field-0 c.in-Some.just c.in-Some.is c.in_ok-just.ensures),
  c.in_ok-proof-in-Some.ensures,
)

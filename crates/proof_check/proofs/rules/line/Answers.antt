use Rattle.std.proofs.Common.{rules, ap, Some}
use Rattle.proof_check.proofs.Concluded.{line_some, line_none}
use Rattle.proof_check.proofs.rules.line.Goals as goal

pub returns-in-Some : goal.returns-in-Some
returns-in-Some c = λ v h sc. line_some c.args.theory.now v h c.args.number (Some c.given.result) c.in-Some.form.now sc c.in-Some.ensures.closed (search (rules, c.in-Some.ensures.value)) (ap Some c.given.ensures)

pub returns-in-None : goal.returns-in-None
returns-in-None c = λ v h sc. line_none c.args.theory.now v h c.args.number (search (rules, c.in-None.ensures.value))

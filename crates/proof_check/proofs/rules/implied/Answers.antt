use Rattle.std.proofs.Common.{rules, Some}
use Rattle.proof_check.proofs.Concluded.{imp_i_some, imp_i_none}
use Rattle.proof_check.proofs.rules.implied.Goals as goal

pub returns-in_ok-implication-in-Some : goal.returns-in_ok-implication-in-Some
returns-in_ok-implication-in-Some c = λ t v h p cp. imp_i_some t v h c.args.left.now c.in-Some.right p c.args.shown (Some _) cp (search (rules, c.in-Some.is)) (search rules)

pub returns-in-None : goal.returns-in-None
returns-in-None c = λ t v h p cp. imp_i_none t v h c.args.left.now p c.args.shown cp (search (rules, c.in-None.is))

use Rattle.std.proofs.Common.{rules, Some}
use Rattle.proof_check.proofs.Concluded.{not_true}
use Rattle.proof_check.proofs.ConcludedOver.{all_i_yes, all_i_no, all_i_none}
use Rattle.proof_check.proofs.quantifiers.generalized.Goals as goal

pub returns-then-is_within : goal.returns-then-is_within
returns-then-is_within c = λ t v h p co. all_i_yes t v h c.args.sort p c.args.shown (Some _) c.in_ok-body-in-Some.body co (search (rules, c.in-Some.is, c.in_ok-body-in-Some.ensures)) (search (rules, c.if-is_within.ensures, c.get.ensures)) (search rules)

pub returns-in-Some : goal.returns-in-Some
returns-in-Some c = λ t v h p co. all_i_no t v h c.args.sort p c.args.shown c.in_ok-body-in-Some.body co (search (rules, c.in-Some.is, c.in_ok-body-in-Some.ensures)) (λ few. absurd (not_true (c.if-is_within.ensures.1 (rw c.get.ensures few))))

pub returns : goal.returns
returns c = λ t v h p co. all_i_none t v h c.args.sort p c.args.shown co (search (rules, c.in-None.is))

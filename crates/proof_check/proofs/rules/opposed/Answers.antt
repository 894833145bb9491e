use Rattle.std.proofs.Common.{rules, refl, Some}
use Rattle.proof_check.proofs.Concluded.{not_true, not_e_yes, not_e_no, not_e_none}
use Rattle.proof_check.proofs.rules.opposed.Goals as goal

pub returns-in_ok-whole-in-Some : goal.returns-in_ok-whole-in-Some
returns-in_ok-whole-in-Some c = λ t v h p q cp cq. not_e_yes t v h p q c.args.denied.now c.args.shown.now (Some _) c.in-Some.body.now cp cq c.in-Some.ensures.some (c.if-is_shown.ensures.0 refl) (search rules)

pub returns-else-is_shown : goal.returns-else-is_shown
returns-else-is_shown c = λ t v h p q cp cq. not_e_no t v h p q c.args.denied.now c.args.shown.now c.in-Some.body.now cp cq c.in-Some.ensures.some (λ e. absurd (not_true (c.if-is_shown.ensures.1 e)))

pub returns-in-None : goal.returns-in-None
returns-in-None c = λ t v h p q cp cq. not_e_none t v h p q c.args.denied.now cp c.in-None.ensures.none

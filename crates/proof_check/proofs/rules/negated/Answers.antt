use Rattle.std.proofs.Common.{refl, ap, Some}
use Rattle.proof_check.proofs.Concluded.{not_true, not_i_yes, not_i_no}
use Rattle.proof_check.proofs.rules.negated.Goals as goal

pub returns-then-is_falsehood : goal.returns-then-is_falsehood
returns-then-is_falsehood c = λ t v h p cp. not_i_yes t v h c.args.body.now p c.args.shown.now (Some c.negation.result) cp (c.if-is_falsehood.ensures.0 refl) (ap Some c.negation.ensures)

pub returns-else-is_falsehood : goal.returns-else-is_falsehood
returns-else-is_falsehood c = λ t v h p cp. not_i_no t v h c.args.body.now p c.args.shown.now cp (λ e. absurd (not_true (c.if-is_falsehood.ensures.1 e)))

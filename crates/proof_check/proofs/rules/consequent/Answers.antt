use Rattle.std.proofs.Common.{refl}
use Rattle.proof_check.proofs.Concluded.{not_true, imp_e_yes, imp_e_no}
use Rattle.proof_check.proofs.rules.consequent.Goals as goal

pub returns-then-is_antecedent : goal.returns-then-is_antecedent
returns-then-is_antecedent c = λ t v h p q cp cq.
    let s = c.if-is_antecedent.ensures.0 refl in
    imp_e_yes t v h p q c.args.whole c.args.shown.now c.right_of.result s.0 s.1 cp cq s.2 s.3 (c.right_of.ensures.imp s.0 s.1 s.2)

pub returns : goal.returns
returns c = λ t v h p q cp cq. imp_e_no t v h p q c.args.whole c.args.shown.now cp cq (λ s. absurd (not_true (c.if-is_antecedent.ensures.1 s)))

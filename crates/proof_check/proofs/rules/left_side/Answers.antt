use Rattle.std.proofs.Common.{refl}
use Rattle.proof_check.proofs.Concluded.{not_true, iff_r_yes, iff_r_no}
use Rattle.proof_check.proofs.rules.left_side.Goals as goal

pub returns-then-is_right : goal.returns-then-is_right
returns-then-is_right c = λ t v h p q cp cq.
    let s = c.if-is_right.ensures.0 refl in
    iff_r_yes t v h p q c.args.whole c.args.shown.now c.left_of.result s.0 s.1 cp cq s.2 s.3 (c.left_of.ensures s.0 s.1 s.2)

pub returns : goal.returns
returns c = λ t v h p q cp cq. iff_r_no t v h p q c.args.whole c.args.shown.now cp cq (λ s. absurd (not_true (c.if-is_right.ensures.1 s)))

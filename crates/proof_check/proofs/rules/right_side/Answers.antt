use Rattle.std.proofs.Common.{refl}
use Rattle.proof_check.proofs.Concluded.{not_true, iff_l_yes, iff_l_no}
use Rattle.proof_check.proofs.rules.right_side.Goals as goal

pub returns-then-is_left : goal.returns-then-is_left
returns-then-is_left c = λ t v h p q cp cq.
    let s = c.if-is_left.ensures.0 refl in
    iff_l_yes t v h p q c.args.whole c.args.shown.now c.right_of.result s.0 s.1 cp cq s.2 s.3 (c.right_of.ensures.iff s.0 s.1 s.2)

pub returns : goal.returns
returns c = λ t v h p q cp cq. iff_l_no t v h p q c.args.whole c.args.shown.now cp cq (λ s. absurd (not_true (c.if-is_left.ensures.1 s)))

use Rattle.std.proofs.Common.{rules, refl, Some}
use Rattle.proof_check.proofs.Concluded.{not_true, iff_i_yes, iff_i_no}
use Rattle.proof_check.proofs.rules.equivalent.Goals as goal

pub returns-then-not-is_shown : goal.returns-then-not-is_shown
returns-then-not-is_shown c = λ t v h p q cp cq. iff_i_no t v h c.args.left.now c.args.right.now p q c.args.forth.now c.args.back.now cp cq (λ e f. absurd (not_true (c.if-not-is_shown.ensures.1 e)))

pub returns-then-not-is_shown-2 : goal.returns-then-not-is_shown-2
returns-then-not-is_shown-2 c = λ t v h p q cp cq. iff_i_no t v h c.args.left.now c.args.right.now p q c.args.forth.now c.args.back.now cp cq (λ e f. absurd (not_true (c.if-not-is_shown-2.ensures.1 f)))

pub returns : goal.returns
returns c = λ t v h p q cp cq. iff_i_yes t v h c.args.left.now c.args.right.now p q c.args.forth.now c.args.back.now (Some _) cp cq (c.if-not-is_shown.ensures.0 refl) (c.if-not-is_shown-2.ensures.0 refl) (search rules)

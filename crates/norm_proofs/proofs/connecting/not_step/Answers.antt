use Rattle.std.proofs.Common.{refl, ◌∙◌}
use Rattle.derive_kit.proofs.Built.{ok_map}
use Rattle.norm_proofs.proofs.NormsFacts.{not_plus, not_minus}
use Rattle.norm_proofs.proofs.connecting.not_step.Goals as goal

pub returns-then-positive : goal.returns-then-positive
returns-then-positive c = λ n l. not_plus c.args.positive c.args.forth n c.args.part c.args.body.now c.args.norm.now c.if-positive.true l

pub returns : goal.returns
returns c =
    ok_map c.then.result (λ made e n l.
    not_minus c.args.positive c.args.forth n c.args.part made c.args.body.now c.args.norm.now c.if-positive.false
    (e ∙ (rw (c.in_ok-twice.ensures, c.in_ok-denied.ensures, c.in_ok-copy.ensures, c.in_ok-outer.ensures, c.in_ok-copy-2.ensures) refl)) l) c.then.ensures

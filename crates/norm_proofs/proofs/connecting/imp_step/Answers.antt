use Rattle.std.proofs.Common.{refl, ◌∙◌}
use Rattle.derive_kit.proofs.Built.{ok_map}
use Rattle.norm_proofs.proofs.NormsFacts.{norm_of_sides}
use Rattle.norm_proofs.proofs.Made.{imp_made}
use Rattle.norm_proofs.proofs.connecting.imp_step.Goals as goal

pub by_other-requires : goal.by_other-requires
by_other-requires c = rw (c.in_ok-other.ensures, c.as_slice.ensures, c.in_ok-forms.ensures) c.in_ok-inner.ensures.norm

pub returns-clause-norm : goal.returns-clause-norm
returns-clause-norm c = ok_map c.by_other.result (λ made e. e ∙ c.in_ok-inner.ensures.norm ∙ norm_of_sides c.args.positive c.args.left.now c.args.right.now) c.by_other.ensures.norm

pub returns-clause-part : goal.returns-clause-part
returns-clause-part c =
    ok_map c.by_other.result (λ made f n l k.
    imp_made c.args.positive c.args.forth n c.toward.result c.in_ok-whole.whole c.in_ok-other.other c.args.left.now c.args.right.now c.in_ok-turned.turned c.in_ok-inner.inner.part made.part (rw (c.in_ok-whole.ensures, c.in_ok-copy.ensures, c.in_ok-copy-2.ensures) refl)
    (rw (c.in_ok-other.ensures, c.as_slice.ensures, c.in_ok-forms.ensures) refl) c.in_ok-turned.ensures c.toward.ensures f (c.in_ok-inner.ensures.part n l k)) c.by_other.ensures.part

use Rattle.std.proofs.Common.{ap, ◌∙◌}
use Rattle.fof_terms.specs.declared.form.Form.{Not}
use Rattle.derive_kit.proofs.Built.{ok_map}
use Rattle.norm_proofs.proofs.NormsFacts.{room}
use Rattle.norm_proofs.proofs.Turned.{turned_made}
use Rattle.norm_proofs.proofs.connecting.denied_step.Goals as goal

pub norm_signed-requires : goal.norm_signed-requires
norm_signed-requires c = room c.args.other.now c.requires

pub returns : goal.returns
returns c =
    let norm = c.in_ok-norm.ensures ∙ c.in_ok-norm_signed.ensures in
    ok_map c.then-2.result (λ made e n l k.
    turned_made c.args.forth n c.args.form.now c.args.other.now c.in_ok-copy-5.field-0 c.in_ok-first.first c.in_ok-copy-2.field-0 c.in_ok-twice.twice c.in_ok-norm.norm c.in_ok-copy-4.field-0 c.args.part c.args.last
    c.in_ok-turned.turned c.in_ok-inner.inner c.in_ok-outer.outer made e c.in_ok-copy-5.ensures c.in_ok-outer.ensures c.in_ok-inner.ensures
    (c.in_ok-twice.ensures ∙ ap Not (c.in_ok-denied.ensures ∙ ap Not c.in_ok-copy-3.ensures)) (c.in_ok-copy-4.ensures ∙ c.get.ensures ∙ norm) norm c.in_ok-turned.ensures (c.in_ok-first.ensures ∙ ap Not c.in_ok-copy.ensures) c.in_ok-copy-2.ensures l k) c.then-2.ensures

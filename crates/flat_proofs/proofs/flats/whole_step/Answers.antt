use Rattle.std.proofs.Common.{◌∙◌, sym}
use Rattle.derive_kit.proofs.Built.{ok_map}
use Rattle.flat_proofs.proofs.FlatFacts.{norm_room, norm_fits, norm_normal, led_somewhere, flat_is, whole_leads}
use Rattle.flat_proofs.proofs.flats.whole_step.Goals as goal

pub norm_signed-requires : goal.norm_signed-requires
norm_signed-requires c = norm_room c.args.form.now c.requires.size

pub norm_or_none-requires-clause-norm : goal.norm_or_none-requires-clause-norm
norm_or_none-requires-clause-norm c = c.get.ensures ∙ (c.in_ok-norm.ensures ∙ c.in_ok-norm_signed.ensures)

pub norm_step-requires-clause-size : goal.norm_step-requires-clause-size
norm_step-requires-clause-size c = norm_fits c.args.form.now c.get-2.result.now (c.get-2.ensures ∙ (c.in_ok-norm.ensures ∙ c.in_ok-norm_signed.ensures)) c.requires.size

pub norm_step-requires-clause-sorted : goal.norm_step-requires-clause-sorted
norm_step-requires-clause-sorted c = led_somewhere c.args.forth c.in_ok-first.first c.args.form.now c.get.result.now c.get-2.result.now c.in_ok-first.ensures (c.get-2.ensures ∙ sym c.get.ensures) c.requires.sorted

pub norm_step-requires-clause-normal : goal.norm_step-requires-clause-normal
norm_step-requires-clause-normal c = norm_normal c.args.form.now c.get-2.result.now (c.get-2.ensures ∙ (c.in_ok-norm.ensures ∙ c.in_ok-norm_signed.ensures))

pub returns : goal.returns
returns c =
    ok_map c.or_same.result (λ made f. whole_leads c.args.forth c.args.form.now c.get.result.now c.get-2.result.now c.in_ok-flat.field-0.form c.get-3.result.now c.in_ok-first.first c.in_ok-flat.field-0.part c.in_ok-whole.whole made (c.get.ensures ∙ (c.in_ok-norm.ensures ∙ c.in_ok-norm_signed.ensures)) (c.get-2.ensures ∙ sym c.get.ensures)
    c.in_ok-flat.ensures.form c.get-3.ensures c.in_ok-first.ensures c.in_ok-flat.ensures.part c.in_ok-whole.ensures f) c.or_same.ensures

use Rattle.std.proofs.Common.{◌∙◌, sym}
use Rattle.flat_proofs.proofs.FlatFacts.{room_somewhere, loose_fits, led_somewhere, loose_norm_is, step_leads}
use Rattle.flat_proofs.proofs.flats.norm_step.Goals as goal

pub flatten-requires-clause-room : goal.flatten-requires-clause-room
flatten-requires-clause-room c = room_somewhere c.args.norm.now c.requires.size c.requires.sorted

pub norm_or_none-requires-clause-size : goal.norm_or_none-requires-clause-size
norm_or_none-requires-clause-size c = loose_fits c.args.norm.now c.get.result.now (c.get.ensures ∙ c.in_ok-loose.ensures.form) c.requires.size

pub norm_or_none-requires-clause-sorted : goal.norm_or_none-requires-clause-sorted
norm_or_none-requires-clause-sorted c = led_somewhere c.args.forth c.in_ok-loose.field-0.part c.args.norm.now _ c.get.result.now c.in_ok-loose.ensures.part (c.get.ensures ∙ c.in_ok-loose.ensures.form) c.requires.sorted

pub norm_or_none-requires-clause-norm : goal.norm_or_none-requires-clause-norm
norm_or_none-requires-clause-norm c = loose_norm_is c.args.norm.now c.get.result.now c.get-2.result.now c.requires.normal (c.get.ensures ∙ c.in_ok-loose.ensures.form) (c.get-2.ensures ∙ c.in_ok-form.ensures)

pub returns-clause-part : goal.returns-clause-part
returns-clause-part c =
    step_leads c.args.forth c.args.norm.now c.in_ok-loose.field-0.form c.get.result.now c.in_ok-form.form c.get-2.result.now c.get-3.result.now c.in_ok-loose.field-0.part c.in_ok-last.last c.in_ok-part.part c.in_ok-loose.ensures.form c.get.ensures c.get-2.ensures c.get-3.ensures c.in_ok-loose.ensures.part c.in_ok-last.ensures c.in_ok-part.ensures

use Rattle.std.proofs.Common.{◌∙◌, ap, arith, length, map, sym}
use Rattle.std.proofs.lemmas.List.{length-map}
use Rattle.flat_form.specs.Flat.{new_number, order_of}
use Rattle.flat_proofs.specs.code.Permuting.{down, turned_by}
use Rattle.flat_proofs.proofs.TurnFacts.{turn_room, turned_form, turned_is, turn_leads_here, numbers_count, order_fits}
use Rattle.flat_proofs.proofs.turning.turned.Goals as goal

pub overflow_cast-len : goal.overflow_cast-len
overflow_cast-len c =
    omega (arith, order_fits c.args.pulled.now.sorts c.as_slice.result.now c.in_ok-turn.turn.order.keys c.args.body.now c.len.result c.as_slice.ensures c.in_ok-turn.ensures.order c.len.ensures.len, c.requires.few)

pub renumber-requires-clause-near : goal.renumber-requires-clause-near
renumber-requires-clause-near c = rw c.as_slice-numbers.ensures c.in_ok-turn.ensures.small

pub renumber-requires-clause-room : goal.renumber-requires-clause-room
renumber-requires-clause-room c =
    rw c.as_slice-numbers.ensures
    (turn_room c.in_ok-turn.turn.order.keys c.in_ok-turn.turn.numbers (length c.args.pulled.now.sorts) c.len.result c.args.pulled.now.body c.args.body.now (c.in_ok-turn.ensures.order ∙ ap (λ ss. order_of (length ss) c.args.body.now) c.as_slice.ensures)
    (c.in_ok-turn.ensures.numbers ∙ ap (λ ss. map (new_number c.in_ok-turn.turn.order.keys (length ss)) (down (length ss))) c.as_slice.ensures) (numbers_count _ c.in_ok-turn.turn.order.keys c.as_slice.result.now c.args.pulled.now.sorts c.as_slice.ensures c.in_ok-turn.ensures.numbers) c.len.ensures.len
    c.requires.own)

pub returns-clause-form : goal.returns-clause-form
returns-clause-form c =
    turned_is c.args.pulled.now.sorts c.as_slice.result.now c.in_ok-turn.turn.order.keys c.in_ok-turn.turn.numbers c.as_slice-numbers.result.now c.in_ok-turn.turn.sorts c.as_slice-2.result.now c.len.result c.args.pulled.now.body c.args.body.now c.in_ok-inner.inner c.in_ok-new.field-0 c.in_ok-form.form c.as_slice.ensures
    c.as_slice-numbers.ensures c.as_slice-2.ensures c.in_ok-turn.ensures.order c.in_ok-turn.ensures.listed c.len.ensures.len c.in_ok-inner.ensures c.in_ok-new.ensures c.in_ok-turn.ensures.sorts c.in_ok-form.ensures

pub returns-clause-part : goal.returns-clause-part
returns-clause-part c = λ n le.
    turn_leads_here c.args.forth c.args.pulled.now.sorts c.as_slice.result.now c.as_slice-3.result.now c.in_ok-turn.turn.order.keys c.args.pulled.now.body c.args.body.now c.get.result.now c.get-2.result.now c.in_ok-first.first c.in_ok-form.form c.in_ok-part.part n c.as_slice.ensures c.as_slice-3.ensures c.in_ok-turn.ensures.order c.requires.stand
    le c.in_ok-first.ensures c.get.ensures c.get-2.ensures
    (turned_is c.args.pulled.now.sorts c.as_slice.result.now c.in_ok-turn.turn.order.keys c.in_ok-turn.turn.numbers c.as_slice-numbers.result.now c.in_ok-turn.turn.sorts c.as_slice-2.result.now c.len.result c.args.pulled.now.body c.args.body.now c.in_ok-inner.inner c.in_ok-new.field-0 c.in_ok-form.form c.as_slice.ensures
    c.as_slice-numbers.ensures c.as_slice-2.ensures c.in_ok-turn.ensures.order c.in_ok-turn.ensures.listed c.len.ensures.len c.in_ok-inner.ensures c.in_ok-new.ensures c.in_ok-turn.ensures.sorts c.in_ok-form.ensures)
    c.in_ok-part.ensures

use Rattle.std.proofs.Common.{◌≡◌, get_or, sym, ◌∙◌, arith, None, Some}
use Rattle.std.specs.Prelude.{slice_get}
use Rattle.fi_model.proofs.RowLoops.{uneven_places, place_there, place_misses, places_more}
use Rattle.fi_model.proofs.rows.places.Goals as goal

pub returns-then-sorts-len : goal.returns-then-sorts-len
returns-then-sorts-len c = sym (uneven_places c.args.domains.now c.args.sorts.now c.args.elements.now (λ same. c.if-sorts-len.true (same ∙ sym c.len.ensures)))

pub returns-in-None : goal.returns-in-None
returns-in-None c =
    let none : place_there c.args.domains.now (get_or c.args.sorts.now c.loop-i.i 0) (slice_get c.args.elements.now c.loop-i.i) ≡ None = cc (c.in-None.ensures, c.get.ensures) in
    sym (place_misses c.args.domains.now c.args.sorts.now c.args.elements.now c.loop-i.i (omega arith) (omega arith) none)

pub loop-i-preserved : goal.loop-i-preserved
loop-i-preserved c =
    let some : place_there c.args.domains.now (get_or c.args.sorts.now c.loop-i.i 0) (slice_get c.args.elements.now c.loop-i.i) ≡ Some c.in-Some.number = cc (c.in-Some.ensures, c.get.ensures) in
    rw c.in_ok-push-in-Some.ensures.ok
    (places_more c.args.domains.now c.args.sorts.now c.args.elements.now c.loop-i.i c.in-Some.number c.loop-i.found (omega arith) (omega arith) some c.loop-i.invariant)

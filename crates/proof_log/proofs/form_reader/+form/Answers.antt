use Rattle.std.proofs.Common.{arith, rules, ◌+◌, sym, subst}
use Rattle.proof_log.specs.code.ReadTrees as spec
use Rattle.proof_log.proofs.Loops.{Kept, kept_first, kept_more, kept_fails, kept_all}
use Rattle.proof_log.proofs.Rooms.{form_room}
use Rattle.proof_log.proofs.form_reader.+form.Goals as goal

pub form-returns-else-room-eq0 : goal.form-returns-else-room-eq0
form-returns-else-room-eq0 t c = form_room c.args.room (omega arith) c.args.text.now c.form_within.result c.form_within.new.text c.form_within.ensures

pub forms-loop-init : goal.forms-loop-init
forms-loop-init t c = subst (λ xs. Kept (spec.form c.args.room) c.in_ok-count.count c.large.new.text xs 0 c.large.new.text) (sym c.in_ok-found.ensures) (kept_first (spec.form c.args.room) c.in_ok-count.count c.large.new.text)

pub forms-returns-in_err-next : goal.forms-returns-in_err-next
forms-returns-in_err-next t c =
    let f = kept_fails (spec.form c.args.room) c.in_ok-count.count c.large.new.text c.args.text.now c.in_ok-count.ensures c.loop.found c.loop.counter c.loop.text c.loop-test.true c.loop.invariant c.in_err-next.field-0.0 c.form.new.text c.in_err-next.ensures in
    search rules

pub forms-loop-preserved : goal.forms-loop-preserved
forms-loop-preserved t c =
    subst (λ xs. Kept (spec.form c.args.room) c.in_ok-count.count c.large.new.text xs (c.loop.counter + 1) c.form.new.text) (sym c.in_ok-add.ensures)
    (kept_more (spec.form c.args.room) c.in_ok-count.count c.large.new.text c.loop.found c.loop.counter c.loop.text c.in_ok-next.next c.form.new.text c.loop-test.true c.loop.invariant c.in_ok-next.ensures)

pub forms-returns : goal.forms-returns
forms-returns t c = kept_all (spec.form c.args.room) c.in_ok-count.count c.large.new.text c.args.text.now c.in_ok-count.ensures c.loop.found c.loop.counter c.loop.text c.loop-test.false c.loop.invariant

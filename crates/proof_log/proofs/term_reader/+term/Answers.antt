use Rattle.std.proofs.Common.{arith, rules, ◌+◌, sym, subst}
use Rattle.proof_log.specs.code.ReadTrees as spec
use Rattle.proof_log.proofs.Loops.{Kept, kept_first, kept_more, kept_fails, kept_all}
use Rattle.proof_log.proofs.Rooms.{term_room}
use Rattle.proof_log.proofs.term_reader.+term.Goals as goal

pub term-returns-else-room-eq0 : goal.term-returns-else-room-eq0
term-returns-else-room-eq0 t c = term_room c.args.room (omega arith) c.args.text.now c.term_within.result c.term_within.new.text c.term_within.ensures

pub terms-loop-init : goal.terms-loop-init
terms-loop-init t c = subst (λ xs. Kept (spec.term c.args.room) c.in_ok-count.count c.large.new.text xs 0 c.large.new.text) (sym c.in_ok-found.ensures) (kept_first (spec.term c.args.room) c.in_ok-count.count c.large.new.text)

pub terms-returns-in_err-next : goal.terms-returns-in_err-next
terms-returns-in_err-next t c =
    let f = kept_fails (spec.term c.args.room) c.in_ok-count.count c.large.new.text c.args.text.now c.in_ok-count.ensures c.loop.found c.loop.counter c.loop.text c.loop-test.true c.loop.invariant c.in_err-next.field-0.0 c.term.new.text c.in_err-next.ensures in
    search rules

pub terms-loop-preserved : goal.terms-loop-preserved
terms-loop-preserved t c =
    subst (λ xs. Kept (spec.term c.args.room) c.in_ok-count.count c.large.new.text xs (c.loop.counter + 1) c.term.new.text) (sym c.in_ok-push.ensures.ok)
    (kept_more (spec.term c.args.room) c.in_ok-count.count c.large.new.text c.loop.found c.loop.counter c.loop.text c.in_ok-next.next c.term.new.text c.loop-test.true c.loop.invariant c.in_ok-next.ensures)

pub terms-returns : goal.terms-returns
terms-returns t c = kept_all (spec.term c.args.room) c.in_ok-count.count c.large.new.text c.args.text.now c.in_ok-count.ensures c.loop.found c.loop.counter c.loop.text c.loop-test.false c.loop.invariant

use Rattle.std.proofs.Common.{arith, rules, ◌+◌, sym, subst}
use Rattle.proof_log.specs.code.ReadTrees as spec
use Rattle.proof_log.proofs.Loops.{Kept, kept_first, kept_more, kept_fails, kept_all}
use Rattle.proof_log.proofs.Rooms.{proof_room}
use Rattle.proof_log.proofs.proof_reader.+proof.Goals as goal

pub proof-returns-else-room-eq0 : goal.proof-returns-else-room-eq0
proof-returns-else-room-eq0 t c = proof_room c.args.room (omega arith) c.args.text.now c.proof_within.result c.proof_within.new.text c.proof_within.ensures

pub proofs-loop-init : goal.proofs-loop-init
proofs-loop-init t c = subst (λ xs. Kept (spec.proof c.args.room) c.in_ok-count.count c.large.new.text xs 0 c.large.new.text) (sym c.in_ok-found.ensures) (kept_first (spec.proof c.args.room) c.in_ok-count.count c.large.new.text)

pub proofs-returns-in_err-next : goal.proofs-returns-in_err-next
proofs-returns-in_err-next t c =
    let f = kept_fails (spec.proof c.args.room) c.in_ok-count.count c.large.new.text c.args.text.now c.in_ok-count.ensures c.loop.found c.loop.counter c.loop.text c.loop-test.true c.loop.invariant c.in_err-next.field-0.0 c.proof.new.text c.in_err-next.ensures in
    search rules

pub proofs-loop-preserved : goal.proofs-loop-preserved
proofs-loop-preserved t c =
    subst (λ xs. Kept (spec.proof c.args.room) c.in_ok-count.count c.large.new.text xs (c.loop.counter + 1) c.proof.new.text) (sym c.in_ok-add.ensures)
    (kept_more (spec.proof c.args.room) c.in_ok-count.count c.large.new.text c.loop.found c.loop.counter c.loop.text c.in_ok-next.next c.proof.new.text c.loop-test.true c.loop.invariant c.in_ok-next.ensures)

pub proofs-returns : goal.proofs-returns
proofs-returns t c = kept_all (spec.proof c.args.room) c.in_ok-count.count c.large.new.text c.args.text.now c.in_ok-count.ensures c.loop.found c.loop.counter c.loop.text c.loop-test.false c.loop.invariant

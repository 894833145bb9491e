use Rattle.std.proofs.Common.{rules, ◌+◌, sym, subst}
use Rattle.proof_log.specs.code.ReadWords.{number}
use Rattle.proof_log.proofs.Loops.{Kept, kept_first, kept_more, kept_fails, kept_all}
use Rattle.proof_log.proofs.entry_reader.numbers.Goals as goal

pub loop-init : goal.loop-init
loop-init c = subst (λ xs. Kept (number 4294967295) c.in_ok-count.count c.large.new.text xs 0 c.large.new.text) (sym c.in_ok-found.ensures) (kept_first (number 4294967295) c.in_ok-count.count c.large.new.text)

pub returns-in_err-next : goal.returns-in_err-next
returns-in_err-next c =
    let f = kept_fails (number 4294967295) c.in_ok-count.count c.large.new.text c.args.text.now c.in_ok-count.ensures c.loop.found c.loop.counter c.loop.text c.loop-test.true c.loop.invariant c.in_err-next.field-0.0 c.small.new.text c.in_err-next.ensures in
    search rules

pub loop-preserved : goal.loop-preserved
loop-preserved c =
    subst (λ xs. Kept (number 4294967295) c.in_ok-count.count c.large.new.text xs (c.loop.counter + 1) c.small.new.text) (sym c.in_ok-push.ensures.ok)
    (kept_more (number 4294967295) c.in_ok-count.count c.large.new.text c.loop.found c.loop.counter c.loop.text c.in_ok-next.next c.small.new.text c.loop-test.true c.loop.invariant c.in_ok-next.ensures)

pub returns : goal.returns
returns c = kept_all (number 4294967295) c.in_ok-count.count c.large.new.text c.args.text.now c.in_ok-count.ensures c.loop.found c.loop.counter c.loop.text c.loop-test.false c.loop.invariant

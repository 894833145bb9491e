use Rattle.std.proofs.Common.{arith}
use Rattle.derive_kit.proofs.Built.{one_more, one_more_shows}
use Rattle.derive_kit.proofs.builders.each_term.Goals as goal

pub loop-term-preserved : goal.loop-term-preserved
loop-term-preserved c = λ t v h a b is w.
    let item = c.term-item.result in
    let step = one_more t.vocabulary v c.args.terms.now c.loop-term.term-index item a b (omega arith) is in
    let before = c.loop-term.invariant t v h a step.0 step.3 w in
    rw (c.in_ok-made.ensures, c.in_ok-copy.ensures)
    (one_more_shows t v h item _ c.loop-term.made step.0 step.1 step.2 b c.term-item.is step.4 step.5 step.6 before)

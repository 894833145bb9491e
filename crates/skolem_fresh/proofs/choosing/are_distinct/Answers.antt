use Rattle.std.proofs.Common.{sym, ◌∙◌, get_or}
use Rattle.skolem_fresh.proofs.Distinct.{distinct_none, next_distinct, not_all_distinct}
use Rattle.skolem_fresh.proofs.choosing.are_distinct.Goals as goal

pub loop-i-init : goal.loop-i-init
loop-i-init c = distinct_none

pub returns-then-is_among : goal.returns-then-is_among
returns-then-is_among c = (λ f. cc, λ h. absurd (not_all_distinct c.args.numbers.now c.loop-i.i c.is_among.result c.loop-i-test.true c.is_among.ensures c.if-is_among.true h))

pub loop-i-preserved : goal.loop-i-preserved
loop-i-preserved c = next_distinct c.args.numbers.now c.loop-i.i c.is_among.result c.loop-i-test.true c.is_among.ensures c.if-is_among.false c.loop-i.invariant

use Rattle.std.proofs.Common.{refl}
use Rattle.flat_proofs.proofs.TurnFacts.{numbers_next, numbers_end}
use Rattle.flat_proofs.proofs.instances.at_numbers.Goals as goal

pub loop-number-preserved : goal.loop-number-preserved
loop-number-preserved c = numbers_next c.args.numbers.now c.loop-number.number-index _ c.loop-number.made c.in_ok-made.made _ c.loop-number-test.true refl c.in_ok-made.ensures c.loop-number.invariant

pub returns : goal.returns
returns c = numbers_end c.args.numbers.now c.loop-number.number-index c.loop-number.made _ c.loop-number-test.false c.loop-number.invariant

use Rattle.std.proofs.Common.{refl}
use Rattle.given_parts.proofs.PartFacts.{number_pushed}
use Rattle.given_parts.proofs.numbers.push_numbers.Goals as goal

pub loop-number-preserved : goal.loop-number-preserved
loop-number-preserved c = number_pushed c.args.first c.loop-number.number _ c.args.numbers.now c.loop-number.numbers c.push.new.self c.loop-number.invariant refl c.in_ok-push.ensures.ok

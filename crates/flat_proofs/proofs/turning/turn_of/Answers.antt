use Rattle.std.proofs.Common.{◌∙◌, ap, arith, length}
use Rattle.flat_proofs.proofs.TurnFacts.{numbers_are}
use Rattle.flat_proofs.proofs.turning.turn_of.Goals as goal

pub returns-clause-numbers : goal.returns-clause-numbers
returns-clause-numbers c = numbers_are c.in_ok-order.order.keys c.in_ok-numbers.numbers (length c.args.sorts.now) c.in_ok-numbers.ensures.length c.in_ok-numbers.ensures.numbers

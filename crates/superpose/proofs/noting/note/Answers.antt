use Rattle.superpose.proofs.NotedFacts.{noted_one}
use Rattle.superpose.proofs.noting.note.Goals as goal

pub returns : goal.returns
returns c = noted_one c.args.count c.args.variable c.args.noted.now c.push.new.self (c.if-variable-count.false) c.in_ok-push.ensures.ok

use Rattle.std.proofs.Common.{take, arith}
use Rattle.tstp_graph.proofs.Places.{holds_given, holds_all}
use Rattle.tstp_graph.proofs.scope.given_names.Goals as goal

pub loop-name-preserved : goal.loop-name-preserved
loop-name-preserved c = record {
  few = omega (arith, c.in_ok-add.ensures.count, c.loop-name.invariant.few);
  holds = holds_given c.add.new.self c.args.given.now c.loop-name.name-index c.name-item.result c.loop-name-test.true c.name-item.is
      (c.in_ok-add.ensures.holds (take c.loop-name.name-index c.args.given.now) c.loop-name.invariant.holds);
}

pub returns : goal.returns
returns c = holds_all c.loop-name.table c.args.given.now c.loop-name.name-index c.loop-name-test.false c.loop-name.invariant.holds

use Rattle.std.proofs.Common.{arith}
use Rattle.fi_model.proofs.RowLoops.{turn_at, fails_at}
use Rattle.fi_model.proofs.rows.rows.Goals as goal

pub loop-at-preserved : goal.loop-at-preserved
loop-at-preserved c =
    turn_at c.args.signature.now c.args.domains.now c.args.said.now c.loop-at.at c.index-said-at.result c.loop-at.found c.add_rows.new.found c.in_ok-good.good (omega arith) c.index-said-at.is c.loop-at.invariant (cc) c.in_ok-good.ensures

pub returns-then-not-good-clause-fault : goal.returns-then-not-good-clause-fault
returns-then-not-good-clause-fault c =
    fails_at c.args.signature.now c.args.domains.now c.args.said.now c.loop-at.at c.index-said-at.result c.index-said-at-then-not-good.result c.loop-at.found c.add_rows.new.found c.in_ok-good.good c.wrong_element.result
    (omega arith) c.index-said-at-then-not-good.is c.loop-at.invariant c.if-not-good.true c.in_ok-good.ensures c.wrong_element.ensures

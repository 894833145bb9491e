use Rattle.clause_order.specs.Weights.{clause_weight}
use Rattle.saturation.proofs.Greatest.{greatest_more}
use Rattle.saturation.proofs.weighing.greatest_weight.Goals as goal

pub loop-clause-preserved : goal.loop-clause-preserved
loop-clause-preserved c =
    let more = greatest_more clause_weight c.args.clauses.now c.loop-clause.clause-index c.clause-item.result c.loop-clause-test.true in cc

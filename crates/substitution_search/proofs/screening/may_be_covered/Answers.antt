use Rattle.std.proofs.Common.{arith}
use Rattle.clause_rules.proofs.Firsts.{there_at}
use Rattle.substitution_search.proofs.Uncovered.{never_covered, not_before_more}
use Rattle.substitution_search.proofs.screening.may_be_covered.Goals as goal

pub loop-target-preserved : goal.loop-target-preserved
loop-target-preserved c =
    not_before_more c.args.line.now c.args.lit.now c.loop-target.target-index c.target-item.result (there_at c.args.line.now c.loop-target.target-index c.target-item.result c.loop-target-test.true c.target-item.is) (c.may_become.ensures c.if-may_become.false) c.loop-target.invariant

pub returns : goal.returns
returns c = λ e. never_covered c.args.line.now c.args.lit.now c.loop-target.target-index (omega arith) c.loop-target.invariant (c.may_be_absurd.ensures e)

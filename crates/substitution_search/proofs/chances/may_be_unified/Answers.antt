use Rattle.clause_rules.proofs.Firsts.{there_at}
use Rattle.substitution_search.proofs.Unmet.{never_pair}
use Rattle.substitution_search.proofs.chances.may_be_unified.Goals as goal

pub returns-then-not-may_be_equal : goal.returns-then-not-may_be_equal
returns-then-not-may_be_equal c = λ _. never_pair c.args.rigid c.args.pairs.now c.loop-at.at c.index-pairs-at.result (there_at c.args.pairs.now c.loop-at.at c.index-pairs-at.result c.loop-at-test.true c.index-pairs-at.is) (c.may_be_equal.ensures c.if-not-may_be_equal.true)

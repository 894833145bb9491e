use Rattle.clause_rules.proofs.Firsts.{there_at}
use Rattle.substitution_search.proofs.Uncovered.{never_together}
use Rattle.substitution_search.proofs.screening.may_all_become.Goals as goal

pub returns-then-not-may_become_one : goal.returns-then-not-may_become_one
returns-then-not-may_become_one c = λ _.
    never_together c.args.targets.now c.args.lits.now c.loop-at.at c.index-lits-at.result (there_at c.args.lits.now c.loop-at.at c.index-lits-at.result c.loop-at-test.true c.index-lits-at.is) (c.may_become_one.ensures c.if-not-may_become_one.true)

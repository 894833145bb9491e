use Rattle.clause_rules.proofs.Firsts.{there_at}
use Rattle.substitution_search.proofs.Uncovered.{never_others}
use Rattle.substitution_search.proofs.screening.may_others_be_covered.Goals as goal

pub returns-then-not-may_be_covered : goal.returns-then-not-may_be_covered
returns-then-not-may_be_covered c = λ _.
    never_others c.args.line.now c.args.lits.now c.args.i c.loop-at.at c.index-lits-at.result c.if-at-i.true (there_at c.args.lits.now c.loop-at.at c.index-lits-at.result c.loop-at-test.true c.index-lits-at.is) (c.may_be_covered.ensures c.if-not-may_be_covered.true)

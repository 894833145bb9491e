use Rattle.clause_rules.proofs.Firsts.{there_at}
use Rattle.substitution_search.proofs.Uncovered.{never_pivot}
use Rattle.substitution_search.proofs.screening.may_be_pivot.Goals as goal

pub returns-then-not-may_stay : goal.returns-then-not-may_stay
returns-then-not-may_stay c = λ _.
    never_pivot c.args.line.now c.args.lits.now c.args.i c.loop-at.at c.index-lits-i.result c.index-lits-at.result (there_at c.args.lits.now c.args.i c.index-lits-i.result c.requires c.index-lits-i.is) (there_at c.args.lits.now c.loop-at.at c.index-lits-at.result c.loop-at-test.true c.index-lits-at.is)
    (c.may_stay.ensures c.if-not-may_stay.true)

use Rattle.substitution_search.proofs.Unlike.{never_sides}
use Rattle.substitution_search.proofs.matching.may_sides_meet.Goals as goal

pub returns : goal.returns
returns c = λ e. never_sides c.args.is_line c.args.first.now c.args.second.now c.args.third.now c.args.fourth.now (c.may_both_meet.ensures c.if-may_both_meet.false) (c.may_both_meet-2.ensures e)

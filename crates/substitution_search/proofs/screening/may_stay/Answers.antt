use Rattle.substitution_search.proofs.Uncovered.{never_stays}
use Rattle.substitution_search.proofs.screening.may_stay.Goals as goal

pub returns : goal.returns
returns c = λ e. never_stays c.args.line.now c.args.lit.now c.args.pivot.now (c.may_become.ensures c.if-may_become.false) (c.may_be_covered.ensures e)

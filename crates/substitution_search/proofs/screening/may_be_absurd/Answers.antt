use Rattle.substitution_search.proofs.Uncovered.{never_absurd_sides}
use Rattle.substitution_search.proofs.screening.may_be_absurd.Goals as goal

pub returns-else-lit : goal.returns-else-lit
returns-else-lit c = λ e. never_absurd_sides c.args.lit.now c.in-Eq.left c.in-Eq.right c.in-Eq.is (c.may_meet.ensures e)

use Rattle.substitution_search.proofs.Uncovered.{never_clash_atoms}
use Rattle.substitution_search.proofs.screening.may_clash.Goals as goal

pub returns : goal.returns
returns c = λ e. never_clash_atoms c.args.left.now c.args.right.now (c.may_be_same.ensures e)

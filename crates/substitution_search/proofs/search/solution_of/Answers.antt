use Rattle.substitution_search.proofs.Unmet.{unsolved}
use Rattle.substitution_search.proofs.search.solution_of.Goals as goal

pub returns-then-not-may_be_met : goal.returns-then-not-may_be_met
returns-then-not-may_be_met c = unsolved c.args.sig.now c.args.scope.now c.args.goal.now (c.may_be_met.ensures c.if-not-may_be_met.true)

use Rattle.std.proofs.Common.{rules, ◌+◌, arith, ◌∙◌, sym}
use Rattle.proof_check.specs.declared.context.Hypotheses.TheViews.{the_lemmas}
use Rattle.proof_check.specs.code.Hypotheses.{hypotheses, crossed_in}
use Rattle.proof_check.proofs.HypothesesFacts.{hypotheses-Over, crossed_in-Under, crossed_in-Over}
use Rattle.proof_check.proofs.Lifts.{found_over}
use Rattle.proof_check.proofs.context.+find.Goals as goal

pub find-requires : goal.find-requires
find-requires t c = (search (rules, the_lemmas), rw (c.in-Under.is, crossed_in-Under) at c.requires)

pub find-requires-in-Over : goal.find-requires-in-Over
find-requires-in-Over t c = (search (rules, the_lemmas), omega (arith, rw (c.in-Over.is, crossed_in-Over) at c.requires))

pub returns-in-Over : goal.returns-in-Over
returns-in-Over t c = rw (c.in-Over.is, hypotheses-Over) (c.find-in-Over.ensures ∙ sym (found_over c.args.crossed (hypotheses c.in-Over.outer.now) c.args.number))

use Rattle.std.proofs.Common.{subst}
use Rattle.substitution_search.specs.Screens.{NeverOthers}
use Rattle.rule_steps.proofs.LeftOver.{never_screened, rest_fits}
use Rattle.rule_steps.proofs.beside.may_rest_be_covered.Goals as goal

pub returns-then-not-may_others_be_covered : goal.returns-then-not-may_others_be_covered
returns-then-not-may_others_be_covered c = λ _.
    never_screened c.args.sig.now c.args.line.now c.args.clause.now c.args.i
    (subst (λ ls. NeverOthers ls c.args.clause.now.lits c.args.i) c.as_slice.ensures (subst (λ ls. NeverOthers c.as_slice.result.now ls c.args.i) c.as_slice-2.ensures (c.may_others_be_covered.ensures c.if-not-may_others_be_covered.true)))

pub cover_clause-requires-clause-clause : goal.cover_clause-requires-clause-clause
cover_clause-requires-clause-clause c = rest_fits c.args.sig.now c.args.line.now c.args.clause.now c.args.i c.in_ok-rest.rest c.in_ok-rest.ensures.sorts c.in_ok-rest.ensures.lits c.requires.clause

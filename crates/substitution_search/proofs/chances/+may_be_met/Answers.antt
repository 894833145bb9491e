use Rattle.std.proofs.Common.{arith}
use Rattle.clause_rules.proofs.Firsts.{there_at}
use Rattle.substitution_search.proofs.Unmet.{met_all, met_any, met_same, never_each_at, never_one, none_before_more}
use Rattle.substitution_search.proofs.chances.+may_be_met.Goals as goal

pub may_be_met-returns-in-All : goal.may_be_met-returns-in-All
may_be_met-returns-in-All t c = λ e. met_all c.args.rigid c.args.goal.now c.in-All.goals c.as_slice.result.now c.in-All.is c.as_slice.ensures (c.may_each_be_met.ensures e)

pub may_be_met-returns-in-Any : goal.may_be_met-returns-in-Any
may_be_met-returns-in-Any t c = λ e. met_any c.args.rigid c.args.goal.now c.in-Any.goals c.as_slice-in-Any.result.now c.in-Any.is c.as_slice-in-Any.ensures (c.may_one_be_met.ensures e)

pub may_be_met-returns-in-Same : goal.may_be_met-returns-in-Same
may_be_met-returns-in-Same t c = λ e. met_same c.args.rigid c.args.goal.now c.in-Same.pairs c.as_slice-in-Same.result.now c.in-Same.is c.as_slice-in-Same.ensures (c.may_be_unified.ensures e)

pub may_each_be_met-returns-then-not-may_be_met : goal.may_each_be_met-returns-then-not-may_be_met
may_each_be_met-returns-then-not-may_be_met t c = λ _. never_each_at c.args.rigid c.args.goals.now c.loop-at.at c.index-goals-at.result (there_at c.args.goals.now c.loop-at.at c.index-goals-at.result c.loop-at-test.true c.index-goals-at.is) (c.may_be_met.ensures c.if-not-may_be_met.true)

pub may_one_be_met-loop-at-preserved : goal.may_one_be_met-loop-at-preserved
may_one_be_met-loop-at-preserved t c = none_before_more c.args.rigid c.args.goals.now c.loop-at.at c.index-goals-at.result (there_at c.args.goals.now c.loop-at.at c.index-goals-at.result c.loop-at-test.true c.index-goals-at.is) (c.may_be_met.ensures c.if-may_be_met.false) c.loop-at.invariant

pub may_one_be_met-returns : goal.may_one_be_met-returns
may_one_be_met-returns t c = λ _. never_one c.args.rigid c.args.goals.now c.loop-at.at (omega arith) c.loop-at.invariant

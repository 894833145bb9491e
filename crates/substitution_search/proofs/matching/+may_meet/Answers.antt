use Rattle.std.proofs.Common.{arith}
use Rattle.clause_rules.proofs.Firsts.{there_at}
use Rattle.substitution_search.proofs.Unlike.{never_fixed, never_heads, never_args, never_at, never_lent, yes_of}
use Rattle.substitution_search.proofs.matching.+may_meet.Goals as goal

pub may_meet-returns-then-function-other : goal.may_meet-returns-then-function-other
may_meet-returns-then-function-other t c = λ _. never_heads c.args.is_line c.args.left.now c.args.right.now c.in-App.function c.in-App.args c.in-App.is c.in-App-right.other c.in-App-right.others c.in-App-right.is c.if-function-other.true

pub may_meet-returns-in-Var-right : goal.may_meet-returns-in-Var-right
may_meet-returns-in-Var-right t c = λ e. never_fixed c.args.is_line c.args.left.now c.args.right.now c.in-App.function c.in-App.args c.in-App.is c.in-Var-right.field-0 c.in-Var-right.is (yes_of c.args.is_line e)

pub may_meet-returns-else-function-other : goal.may_meet-returns-else-function-other
may_meet-returns-else-function-other t c = λ e.
    never_args c.args.is_line c.args.left.now c.args.right.now c.in-App.function c.in-App.args c.in-App.is c.in-App-right.other c.in-App-right.others c.in-App-right.is
    (never_lent c.args.is_line c.in-App.args c.in-App-right.others c.as_slice.result.now c.as_slice-in-App-right.result.now c.as_slice.ensures c.as_slice-in-App-right.ensures (c.may_all_meet.ensures e))

pub may_all_meet-returns-then-not-may_meet : goal.may_all_meet-returns-then-not-may_meet
may_all_meet-returns-then-not-may_meet t c = λ _.
    never_at c.args.is_line c.args.left.now c.args.right.now c.loop-i.i c.index-left-i.result c.index-right-i.result (there_at c.args.left.now c.loop-i.i c.index-left-i.result (omega arith) c.index-left-i.is) (there_at c.args.right.now c.loop-i.i c.index-right-i.result (omega arith) c.index-right-i.is) (c.may_meet.ensures c.if-not-may_meet.true)
